use mathlib.Core.Path.{◌≡◌, sym, ◌∙◌}
use mathlib.Core.Bool.{true, false}
use mathlib.Core.List.{◌∷◌}
use Prim.Native.Nat.{◌+◌, ◌≤◌}
use native.Mathlib.Omega.{arith}
use lib.ListN.{length, length-take, length-drop}
use borrow.Author.Tests.{le-leb, lt-leb}
use Rattle.lists.proofs.Write.{tail_placed}
use Rattle.stuffing.specs.Stuffing.{stuff}
use Rattle.stuffing_writer.proofs.Answers.{is_within, is_past}
use Rattle.packet_front.specs.Front.{good_id}
use Rattle.packet_encoder.specs.Writing.{packet_of}
use Rattle.packet_encoder.specs.Encoding.{encode_refusal}
use Rattle.packet_encoder.proofs.Writing.{packet_length}
use Rattle.packet_encoder.proofs.encode.Goals as goal
use Rattle.packet_encoder.proofs.encode.Goals.{In-Some}

-- what is known once the length is measured
module _ (p : In-Some) where
  good : good_id p.args.id ≡ true
  good = sym p.good_id.ensures ∙ p.if-not-good_id.false

  measured : (length (stuff (p.args.instruction ∷ p.args.params.now)) ≤ 1022)
      × (length (stuff (p.args.instruction ∷ p.args.params.now)) ≡ p.in-Some.n)
  measured = is_within 1022 _ _ (sym p.stuffed_len.ensures ∙ p.in-Some.is)

pub returns-then-not-good_id : goal.returns-then-not-good_id
unfolding encode_refusal
returns-then-not-good_id c =
    let e : good_id c.args.id ≡ false = sym c.good_id.ensures ∙ c.if-not-good_id.true in
    record {
      value = rw e;
      out_after = rw e;
    }

pub returns-in_default : goal.returns-in_default
unfolding encode_refusal
returns-in_default c =
    let a = c.args in
    let b = a.instruction ∷ a.params.now in
    let g : good_id a.id ≡ true = sym c.good_id.ensures ∙ c.if-not-good_id.false in
    let l =
    lt-leb (length (stuff b) + 2) 1024
    (omega (arith, is_past 1022 (length (stuff b)) (sym c.stuffed_len.ensures ∙ c.in_default.is))) in
    record {
      value = rw (g, l);
      out_after = rw (g, l);
    }

pub overflow_add-n : goal.overflow_add-n
overflow_add-n c = omega (arith, measured (goal.at.overflow_add-n c).In-Some)

pub returns-then-saturating_sub-n : goal.returns-then-saturating_sub-n
unfolding encode_refusal
returns-then-saturating_sub-n c =
    let a = c.args in
    let b = a.instruction ∷ a.params.now in
    let m = measured (goal.at.returns-then-saturating_sub-n c).In-Some in
    let l = le-leb (length (stuff b) + 2) 1024 (omega arith) in
    let r = lt-leb (a.at + length (packet_of a.id b)) (length a.out.now) (omega (arith, packet_length a.id b, c.if-saturating_sub-n.true)) in
    record {
      value = rw (good (goal.at.returns-then-saturating_sub-n c).In-Some, l, r);
      out_after = rw (good (goal.at.returns-then-saturating_sub-n c).In-Some, l, r);
    }

pub write_packet-requires : goal.write_packet-requires
write_packet-requires c =
    let m = measured (goal.at.write_packet-requires c).In-Some in
    (sym m.1, omega arith, simp (length-take, length-drop) (omega arith))

pub returns : goal.returns
unfolding encode_refusal
returns c =
    let a = c.args in
    let b = a.instruction ∷ a.params.now in
    let m = measured (goal.at.returns c).In-Some in
    let h : a.at ≤ length a.out.now = omega arith in
    let l = le-leb (length (stuff b) + 2) 1024 (omega arith) in
    let r =
    le-leb (a.at + length (packet_of a.id b)) (length a.out.now)
    (omega (arith, packet_length a.id b, c.if-saturating_sub-n.false)) in
    let n : length (packet_of a.id b) ≡ c.in-Some.n + 9 = omega (arith, packet_length a.id b) in record {
      value = rw (good (goal.at.returns c).In-Some, l, r, n);
      out_after = rw (good (goal.at.returns c).In-Some, l, r) (tail_placed a.at a.out.now _ (packet_of a.id b) h c.write_packet.ensures);
    }
