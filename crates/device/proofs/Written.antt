-- The status that is written.
use Rattle.std.specs.Prelude.{None, Option, Some}
use mathlib.Core.Path.{◌≡◌, refl, sym, ap, subst, ◌∙◌}
use mathlib.Core.List.{List}
use Prim.Native.Nat.{ℕ, ◌≤◌, ◌<◌}
use native.Mathlib.Omega.{arith}
use lib.ListN.{length, take}
use borrow.Author.Tests.{ne_eqb}
use Rattle.answers.specs.declared.Refusal.{Refusal}
use Rattle.lists.specs.Write.{overwritten}
use Rattle.lists.proofs.Write.{overwritten_take}
use Rattle.device_status.specs.Status.{reply_bytes}
use Rattle.device_status.proofs.Sent.{speaking}
use Rattle.device_status.proofs.Packets.{status_id, status_formed, status_length}
use Rattle.device_dispatch.specs.Reactions.{own_id}
use Rattle.device.specs.Device.{carry_out}
use Rattle.device.specs.Answers.{state_refusal, carried_reply, call_refusal, call_out}
use Rattle.device.specs.Written.{IsStatus, StatusWritten, SlotWithin}
use Rattle.device.proofs.Bounds.{Sendable, sendable}
use Rattle.device.proofs.Calls.{state_accepted, accepted}
use Rattle.device.proofs.Demand1.{sent_by}
use Rattle.device_instructions.specs.declared.RegisteredWrite.{RegisteredWrite}
use Rattle.device_status.specs.declared.Reply.{Reply}
use Rattle.device_dispatch.specs.declared.Heard.{Heard}

is_status : (own : ℕ) (r : Reply) → Sendable own r → 0 < length (reply_bytes r) → IsStatus own (length (reply_bytes r)) (reply_bytes r)
is_status own r g h =
    let s = speaking r h in
    subst (λ (bytes : List ℕ). IsStatus own (length bytes) bytes) (sym s.1)
    (record {
      formed = status_formed r g.short g.known;
      own_id_lem = status_id r ∙ g.own_id_lem s.0;
      short = omega (arith, status_length r g.short (ne_eqb r.error 0xFF (λ e. absurd (omega (arith, g.numbered)))));
    })

pub status_written : StatusWritten
status_written table w heard id body out n slot e h =
    let s = sent_by (call_refusal table w out) _ n slot e in
    let a = accepted table w out s.0 in
    let reply = (carry_out table w heard id body).reply in
    let g = sendable table w a.sized a.known heard id body in
    let first : take n (call_out table w heard id body out) ≡ reply_bytes reply =
    rw s.0 (ap (λ (k : ℕ). take k (overwritten out (reply_bytes reply))) (sym s.1) ∙ overwritten_take out (reply_bytes reply)) in
    subst (λ (bytes : List ℕ). IsStatus (own_id table) n bytes) (sym first)
    (subst (λ (k : ℕ). IsStatus (own_id table) k (reply_bytes reply)) s.1 (is_status (own_id table) reply g (omega (arith, s.1))))

-- a refused call answers silence
first_early : (table : List ℕ) (w : RegisteredWrite) (heard : Heard) (id : ℕ) (body : List ℕ) → (carried_reply table w heard id body).slot ≤ 252
first_early table w heard id body = by_refusal (state_refusal table w) refl
  where
    by_refusal : (r : Option Refusal) → state_refusal table w ≡ r → (carried_reply table w heard id body).slot ≤ 252
    by_refusal (Some number) e = rw e (omega arith)
    by_refusal None e = let a = state_accepted table w e in rw e (sendable table w a.sized a.known heard id body).early

pub slot_within : SlotWithin
slot_within =
    record {
      in_one_lem = λ table w heard id body out n slot e.
          let s = sent_by (call_refusal table w out) _ n slot e in
          let a = accepted table w out s.0 in
          let l = (sendable table w a.sized a.known heard id body).early in
          omega (arith, s.2);
      in_two_lem = first_early;
    }
