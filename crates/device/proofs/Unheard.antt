-- What is sent to an ID that no device has.
use Rattle.std.specs.Prelude.{None, Option, Some}
use mathlib.Core.Path.{◌≡◌, refl, sym, ap}
use mathlib.Core.List.{List}
use Prim.Native.Nat.{ℕ, ◌≤◌}
use native.Mathlib.Omega.{arith}
use Rattle.answers.specs.declared.Refusal.{Refusal}
use Rattle.lists.specs.Write.{overwritten}
use Rattle.device_status.specs.Status.{silence, reply_bytes}
use Rattle.device_dispatch.specs.Reactions.{own_id}
use Rattle.device.specs.Device.{Carried, carry_out}
use Rattle.device.specs.Answers.{state_refusal, carried_reply, carried_table, carried_registered, call_refusal, answered_by, call_answer, call_table, call_registered, call_out}
use Rattle.device.proofs.Calls.{state_accepted, accepted}
use Rattle.device.proofs.Replies.{to_another}
use Rattle.device_instructions.specs.declared.RegisteredWrite.{RegisteredWrite}
use Rattle.device_dispatch.specs.declared.Heard.{Heard}

module _ (table : List ℕ) (w : RegisteredWrite) (heard : Heard) (body out : List ℕ) where
  -- an accepted table has another ID
  nothing_done : own_id table ≤ 252 → carry_out table w heard 255 body ≡ record { table = table; registered = w; reply = silence; error = 0 }
  nothing_done known = sym (to_another table w heard 255 body (λ i. absurd (omega arith)) (λ i. absurd (omega arith)))

  -- nothing changes, and the answer is that of a device with nothing to say
  pub record Unheard : Type 0 where
    pub same_table : call_table table w heard 255 body out ≡ table
    pub same_registered_lem : call_registered table w heard 255 body out ≡ w
    pub same_reply : call_out table w heard 255 body out ≡ out
    pub silent : call_answer table w heard 255 body out ≡ answered_by (call_refusal table w out) silence

  pub unheard : Unheard
  unheard = by_refusal (call_refusal table w out) refl
    where
      by_refusal : (r : Option Refusal) → call_refusal table w out ≡ r → Unheard
      by_refusal (Some number) e = record { same_table = rw e; same_registered_lem = rw e; same_reply = rw e; silent = rw e }
      by_refusal None e =
          let c = nothing_done (accepted table w out e).known in
          record {
            same_table = rw e (ap (λ (x : Carried). x.table) c);
            same_registered_lem = rw e (ap (λ (x : Carried). x.registered) c);
            same_reply = rw e (ap (λ (x : Carried). overwritten out (reply_bytes x.reply)) c);
            silent = rw e (ap (λ (x : Carried). answered_by None x.reply) c);
          }

  -- likewise of the first of two calls
  pub record FirstUnheard : Type 0 where
    pub same_table : carried_table table w heard 255 body ≡ table
    pub same_registered_lem : carried_registered table w heard 255 body ≡ w
    pub silent : carried_reply table w heard 255 body ≡ silence

  pub first_unheard : FirstUnheard
  first_unheard = by_refusal (state_refusal table w) refl
    where
      by_refusal : (r : Option Refusal) → state_refusal table w ≡ r → FirstUnheard
      by_refusal (Some number) e = record { same_table = rw e; same_registered_lem = rw e; silent = rw e }
      by_refusal None e =
          let c = nothing_done (state_accepted table w e).known in
          record {
            same_table = rw e (ap (λ (x : Carried). x.table) c);
            same_registered_lem = rw e (ap (λ (x : Carried). x.registered) c);
            silent = rw e (ap (λ (x : Carried). x.reply) c);
          }
