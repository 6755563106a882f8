-- The status that is written of any reply.
use Rattle.std.specs.Prelude.{None}
use mathlib.Core.Path.{◌≡◌, refl, sym, ap, subst, ◌∙◌}
use mathlib.Core.Bool.{Bool, true, false, cond}
use mathlib.Core.List.{List, [], ◌∷◌}
use Prim.Native.Nat.{ℕ, ◌≤◌, ◌<◌}
use native.Mathlib.Omega.{arith}
use lib.Dec.{leb, eqb}
use lib.ListN.{length, take}
use borrow.Author.Tests.{leb-true}
use Rattle.answers.specs.declared.Refusal.TheVariants.{BadId, TooLong, ShortReply}
use Rattle.answers.proofs.Laws.{counted, passed}
use Rattle.lists.specs.Write.{overwritten}
use Rattle.lists.proofs.Write.{overwritten_take}
use Rattle.packet_encoder.proofs.Writing.{packet_length}
use Rattle.device_status.specs.Status.{status_body, status_packet, reply_bytes}
use Rattle.device_status.specs.Sending.{status_refusal, status_out}
use Rattle.device_status.specs.Sent.{IsStatusOf, ReplyWritten}
use Rattle.device_status.specs.declared.Reply.{Reply}
use Rattle.device_status.proofs.Sending.{body_stuffed}
use Rattle.device_status.proofs.Packets.{status_id, status_formed}

-- what holds where nothing is refused
pub record Accepted (r : Reply) (out : List ℕ) : Type 0 where
  pub known : r.id ≤ 252
  pub short : r.count ≤ 8
  pub room : 32 ≤ length out

pub accepted : (r : Reply) (out : List ℕ) → status_refusal r out ≡ None → Accepted r out
unfolding status_refusal
accepted r out e =
    let p = passed (leb r.id 252) BadId _ e in
    let q = passed (leb r.count 8) TooLong _ p.1 in
    let s = passed (leb 32 (length out)) ShortReply _ q.1 in
    record { known = leb-true r.id 252 p.0; short = leb-true r.count 8 q.0; room = leb-true 32 (length out) s.0 }

-- silence has no bytes
pub speaking : (r : Reply) → 0 < length (reply_bytes r) → (eqb r.speaks 0 ≡ false) × (reply_bytes r ≡ status_packet r)
speaking r h = by_mark (eqb r.speaks 0) refl h
  where
    by_mark : (b : Bool) → eqb r.speaks 0 ≡ b → 0 < length (cond b [] (status_packet r)) → (eqb r.speaks 0 ≡ false) × (reply_bytes r ≡ status_packet r)
    by_mark true e l = absurd (omega arith)
    by_mark false e l = (e, rw e)

pub reply_written : ReplyWritten
reply_written r out n e h =
    let c = counted (status_refusal r out) (length (reply_bytes r)) n e in
    let a = accepted r out c.0 in
    let s = speaking r (omega (arith, c.1)) in
    let first : take n (status_out r out) ≡ status_packet r =
    rw c.0 (ap (λ (k : ℕ). take k (overwritten out (reply_bytes r))) (sym c.1) ∙ overwritten_take out (reply_bytes r) ∙ s.1) in
    subst (λ (bytes : List ℕ). IsStatusOf r.id n bytes) (sym first)
    (record {
      formed = status_formed r a.short a.known;
      same_id = status_id r;
      short = omega (arith, c.1, ap length s.1, packet_length r.id (status_body r), body_stuffed r a.short);
    })
