-- The two calls, one straight after the other, are the one call.
use Rattle.std.specs.Prelude.{Err}
use Rattle.std.specs.Prelude.{None, Option, Some}
use mathlib.Core.Path.{◌≡◌, refl, ◌∙◌}
use mathlib.Core.Bool.{Bool, true, false}
use mathlib.Core.List.{List}
use Prim.Native.Nat.{ℕ, ◌≤◌}
use native.Mathlib.Omega.{arith}
use lib.Dec.{leb}
use lib.ListN.{length}
use borrow.Author.Tests.{leb-true, leb-false}
use Rattle.answers.specs.declared.Refusal.{Refusal}
use Rattle.answers.specs.declared.Refusal.TheVariants.{ShortReply}
use Rattle.device_status.proofs.Sending.{accepts as sends}
use Rattle.device.specs.Device.{carry_out}
use Rattle.device.specs.Answers.{state_refusal, call_refusal, call_answer}
use Rattle.device.specs.Split.{SameAsOne, Split}
use Rattle.device.proofs.Calls.{state_accepted, then_room, refuses_room, accepts}
use Rattle.device.proofs.Bounds.{sendable}
use Rattle.device_instructions.specs.declared.RegisteredWrite.{RegisteredWrite}
use Rattle.device_dispatch.specs.declared.Heard.{Heard}

module _ (table : List ℕ) (w : RegisteredWrite) (heard : Heard) (id : ℕ) (body out : List ℕ) where
  -- the same, and that the first call refuses what the one call refuses
  pub record Same : Type 0 where
    pub as_one : SameAsOne table w heard id body out
    pub refusals : state_refusal table w ≡ call_refusal table w out

  -- the first is refused
  not_carried : (refusal : Refusal) → state_refusal table w ≡ Some refusal → Same
  unfolding call_refusal
  not_carried refusal f =
      record { as_one = record { same_answer_lem = rw f; same_table = rw f; same_registered_lem = rw f; same_reply = rw f }; refusals = rw f }

  -- neither is
  carried : state_refusal table w ≡ None → 32 ≤ length out → Same
  carried f room =
      let a = state_accepted table w f in
      let g = sendable table w a.sized a.known heard id body in
      let c = accepts table w out a.sized a.known a.short room in
      let s = sends (carry_out table w heard id body).reply out g.known g.short room in
      record {
        as_one = record { same_answer_lem = rw (f, c, s); same_table = rw (f, c); same_registered_lem = rw (f, c); same_reply = rw (f, c, s) };
        refusals = rw (f, c);
      }

  by_state : (r : Option Refusal) → state_refusal table w ≡ r → (state_refusal table w ≡ None → Same) → Same
  by_state (Some refusal) e next = not_carried refusal e
  by_state None e next = next e

  pub with_room : 32 ≤ length out → Same
  with_room room = by_state (state_refusal table w) refl (λ f. carried f room)

  pub unless_short : ¬ (call_answer table w heard id body out ≡ Err ShortReply) → Same
  unless_short n = by_state (state_refusal table w) refl (λ f. by_room f (leb 32 (length out)) refl)
    where
      by_room : state_refusal table w ≡ None → (b : Bool) → leb 32 (length out) ≡ b → Same
      by_room f true l = carried f (leb-true 32 (length out) l)
      by_room f false l =
          let c = then_room table w out f ∙ refuses_room out (omega (arith, leb-false 32 (length out) l)) in
          absurd (n (rw c))

pub split : Split
split table w heard id body out n = (unless_short table w heard id body out n).as_one
