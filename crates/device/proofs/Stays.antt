-- What the device call leaves of an accepted table and registered write is accepted, and whatever else each change of a table keeps
-- holds after the call.
use Rattle.std.specs.Prelude.{None, Option, Some}
use mathlib.Core.Path.{◌≡◌, refl, sym, ◌∙◌}
use mathlib.Core.List.{List}
use Prim.Native.Nat.{ℕ, ◌≤◌}
use native.Mathlib.Omega.{arith}
use lib.Dec.{leb}
use lib.ListN.{length}
use borrow.Author.Tests.{le-leb}
use Rattle.answers.specs.Refusals.{unless_refused}
use Rattle.answers.specs.declared.Refusal.{Refusal}
use Rattle.table_registers.specs.Registers.{table_size}
use Rattle.device_instructions.specs.Instructions.{Effect, read, write}
use Rattle.device_instructions.proofs.Options.{each_option, each_action}
use Rattle.device_instructions.proofs.Kept.{Kept, write_keeps, reg_write_keeps, action_keeps, factory_reset_keeps}
use Rattle.device_instructions.proofs.Fit.{FitTable, fit_kept, reg_write_short}
use Rattle.device_dispatch.specs.Reactions.{Reaction}
use Rattle.device_laws.proofs.Every.{every}
use Rattle.device.specs.Device.{executed, carry_out}
use Rattle.device.specs.Answers.{state_refusal, carried_table, carried_registered, call_refusal, call_table, call_registered}
use Rattle.device_instructions.specs.Registered.{kept_by}
use Rattle.device.proofs.Calls.{AcceptedState, accepts_state, state_accepted, accepted}
use Rattle.device.proofs.Replies.{to_whomever}
use Rattle.device_instructions.specs.declared.RegisteredWrite.{RegisteredWrite}
use Rattle.device_dispatch.specs.declared.Heard.{Heard}

module _ (P : List ℕ → Type 0) (kept : Kept P) (table : List ℕ) (p : P table) (w : RegisteredWrite) (heard : Heard) (id : ℕ) (body : List ℕ) where
  pub executed_keeps : P (carry_out table w heard id body).table
  unfolding read
  executed_keeps =
      to_whomever table w heard id body (λ (r : Reaction). P r.effect.table)
      (λ all. every (λ acting (e : Effect). P e.table) table w (λ error le. p) p p (λ address n. p) (write_keeps P kept table w p) (reg_write_keeps P kept table w p)
      (action_keeps P kept table w p) (kept.by_reboot table p) (factory_reset_keeps P kept table w p) heard all body)
      p

  -- whatever registered write is lent, and whatever refuses it
  unless_keeps : (r : Option Refusal) → P (unless_refused r table (executed table w heard id body).effect.table)
  unless_keeps None = executed_keeps
  unless_keeps (Some number) = p

  pub carry_keeps : P (carried_table table w heard id body)
  carry_keeps = unless_keeps (state_refusal table w)

  pub call_keeps : (out : List ℕ) → P (call_table table w heard id body out)
  call_keeps out = unless_keeps (call_refusal table w out)

module _ (table : List ℕ) (w : RegisteredWrite) (heard : Heard) (id : ℕ) (body : List ℕ) where
  executed_short : length table ≡ table_size → w.count ≤ 8 → (carry_out table w heard id body).registered.count ≤ 8
  unfolding read write
  executed_short sized short =
      to_whomever table w heard id body (λ (r : Reaction). r.effect.registered.count ≤ 8)
      (λ all. every (λ acting (e : Effect). e.registered.count ≤ 8) table w (λ error le. short) short short (λ address n. short) (λ address bytes. short)
      (reg_write_short table w sized short) (each_action (λ (e : Effect). e.registered.count ≤ 8) table w short (omega arith) (omega arith)) (omega arith)
      (each_option (λ (e : Effect). e.registered.count ≤ 8) table w (λ keeps low high. omega arith) short) heard all body)
      short

  -- a registered write with a count above 8 stays
  unless_count : (r : Option Refusal) → (r ≡ None → AcceptedState table w)
      → leb (kept_by r w (executed table w heard id body).effect.registered).count 8 ≡ leb w.count 8
  unless_count None good =
      let a = good refl in
      le-leb _ 8 (executed_short a.sized a.short) ∙ sym (le-leb w.count 8 a.short)
  unless_count (Some number) good = refl

  pub carry_count : leb (carried_registered table w heard id body).count 8 ≡ leb w.count 8
  carry_count = unless_count (state_refusal table w) (state_accepted table w)

  pub call_count : (out : List ℕ) → leb (call_registered table w heard id body out).count 8 ≡ leb w.count 8
  call_count out =
      unless_count (call_refusal table w out)
      (λ e. let a = accepted table w out e in record { sized = a.sized; known = a.known; short = a.short })

  -- where nothing is refused
  pub carry_accepted : state_refusal table w ≡ None → state_refusal (carry_out table w heard id body).table (carry_out table w heard id body).registered ≡ None
  carry_accepted e =
      let a = state_accepted table w e in
      let f = executed_keeps FitTable fit_kept table (record { sized = a.sized; known = a.known }) w heard id body in
      accepts_state _ _ f.sized f.known (executed_short a.sized a.short)
