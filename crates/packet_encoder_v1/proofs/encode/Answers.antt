use mathlib.Core.Path.{◌≡◌, sym, ◌∙◌}
use mathlib.Core.Bool.{true, false}
use mathlib.Core.List.{◌∷◌}
use Prim.Native.Nat.{◌+◌}
use native.Mathlib.Omega.{arith}
use lib.ListN.{length}
use borrow.Author.Tests.{le-leb, lt-leb}
use Rattle.lists.proofs.Write.{tail_placed}
use Rattle.packet_v1.specs.Packet.{up_to}
use Rattle.packet_encoder_v1.specs.Writing.{packet_of}
use Rattle.packet_encoder_v1.specs.Encoding.{encode_refusal}
use Rattle.packet_encoder_v1.proofs.Writing.{packet_length}
use Rattle.packet_encoder_v1.proofs.encode.Goals as goal
use Rattle.packet_encoder_v1.proofs.encode.Goals.{Else-not-good_id}

-- the ID is allowed
good : (p : Else-not-good_id) → up_to p.args.last p.args.id ≡ true
good p = sym p.good_id.ensures ∙ p.if-not-good_id.false

pub returns-then-not-good_id : goal.returns-then-not-good_id
unfolding encode_refusal
returns-then-not-good_id c =
    let a = c.args in
    let e : up_to a.last a.id ≡ false = sym c.good_id.ensures ∙ c.if-not-good_id.true in
    record {
      value = rw e;
      out_after = rw e;
    }

pub returns-then-n-gt-MOST_PARAMETERS : goal.returns-then-n-gt-MOST_PARAMETERS
unfolding encode_refusal
returns-then-n-gt-MOST_PARAMETERS c =
    let a = c.args in
    let l = lt-leb (length (a.instruction ∷ a.params.now) + 1) 255 (omega (arith, c.if-n-gt-MOST_PARAMETERS.true)) in
    record {
      value = rw (good (goal.at.returns-then-n-gt-MOST_PARAMETERS c).Else-not-good_id, l);
      out_after = rw (good (goal.at.returns-then-n-gt-MOST_PARAMETERS c).Else-not-good_id, l);
    }

pub returns-then-saturating_sub-n : goal.returns-then-saturating_sub-n
unfolding encode_refusal
returns-then-saturating_sub-n c =
    let a = c.args in
    let b = a.instruction ∷ a.params.now in
    let l = le-leb (length b + 1) 255 (omega (arith, c.if-n-gt-MOST_PARAMETERS.false)) in
    let r = lt-leb (a.at + length (packet_of a.id b)) (length a.out.now) (omega (arith, packet_length a.id b, c.if-saturating_sub-n.true)) in
    record {
      value = rw (good (goal.at.returns-then-saturating_sub-n c).Else-not-good_id, l, r);
      out_after = rw (good (goal.at.returns-then-saturating_sub-n c).Else-not-good_id, l, r);
    }

pub returns : goal.returns
unfolding encode_refusal
returns c =
    let a = c.args in
    let b = a.instruction ∷ a.params.now in
    let l = le-leb (length b + 1) 255 (omega (arith, c.if-n-gt-MOST_PARAMETERS.false)) in
    let r =
    le-leb (a.at + length (packet_of a.id b)) (length a.out.now) (omega (arith, packet_length a.id b, c.if-saturating_sub-n.false)) in
    let n : length (packet_of a.id b) ≡ length a.params.now + 6 = omega (arith, packet_length a.id b) in record {
      value = rw (good (goal.at.returns c).Else-not-good_id, l, r, n);
      out_after = rw (good (goal.at.returns c).Else-not-good_id, l, r) (tail_placed a.at a.out.now _ (packet_of a.id b) (omega arith) c.write_packet.ensures);
    }
