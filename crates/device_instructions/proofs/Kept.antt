-- What holds of a table and outlasts each change that a call may make of it outlasts every instruction.
use Rattle.std.specs.Prelude.{None, Option, Some}
use mathlib.Core.Path.{◌≡◌, refl}
use mathlib.Core.Bool.{Bool, false}
use mathlib.Core.List.{List}
use Prim.Native.Nat.{ℕ}
use lib.IntN.{ℤ}
use Rattle.answers.specs.Refusals.{unless_refused}
use Rattle.table_registers.specs.Registers.{Register, min_position, max_position, registered_instruction}
use Rattle.table_items.specs.Items.{put}
use Rattle.table_rules.specs.Rules.{stored, write_rule}
use Rattle.table_access.specs.Answers.{fresh_out, measure_out}
use Rattle.table_resets.specs.Resets.{rebooted, reset_rom}
use Rattle.device_instructions.specs.Registered.{dropped, bytes_to_write}
use Rattle.device_instructions.specs.Instructions.{Effect, write, reg_write, action, factory_reset}
use Rattle.device_instructions.proofs.Options.{each_option, each_action}
use Rattle.device_instructions.specs.declared.RegisteredWrite.{RegisteredWrite}

pub record Kept (P : List ℕ → Type 0) : Type 0 where
  pub by_fresh : (table : List ℕ) → P table → P (fresh_out table)
  pub by_measurement : (table : List ℕ) → P table → (position : ℤ) (error : ℕ) → P (measure_out table position error)
  -- a good write, and the byte that says whether one is registered
  pub by_write : (table : List ℕ) → P table → (address : ℕ) (bytes : List ℕ) → write_rule table address bytes ≡ None → P (stored table address bytes)
  pub by_mark : (table : List ℕ) → P table → (b : ℕ) → P (put table registered_instruction b)
  pub by_reboot : (table : List ℕ) → P table → P (rebooted table)
  -- every reset has both limits of the position
  pub by_reset : (table : List ℕ) → P table → (keeps : Register → Bool) → keeps min_position ≡ false → keeps max_position ≡ false
      → P (rebooted (reset_rom keeps table))

module _ (P : List ℕ → Type 0) (kept : Kept P) where
  module _ (table : List ℕ) (w : RegisteredWrite) (p : P table) where
    pub write_keeps : (address : ℕ) (bytes : List ℕ) → P (write table w address bytes).table
    unfolding write
    write_keeps address bytes = by_rule (write_rule table address bytes) refl
      where
        by_rule : (r : Option ℕ) → write_rule table address bytes ≡ r → P (unless_refused r table (stored table address bytes))
        by_rule None e = kept.by_write table p address bytes e
        by_rule (Some number) e = p

    pub reg_write_keeps : (address : ℕ) (bytes : List ℕ) → P (reg_write table w address bytes).table
    unfolding reg_write
    reg_write_keeps address bytes = by_rule (write_rule table address bytes)
      where
        by_rule : (r : Option ℕ) → P (unless_refused r table (put table registered_instruction 1))
        by_rule None = kept.by_mark table p 1
        by_rule (Some number) = p

    pub factory_reset_keeps : (option : ℕ) → P (factory_reset table w option).table
    factory_reset_keeps = each_option (λ (e : Effect). P e.table) table w (kept.by_reset table p) p

  pub action_keeps : (table : List ℕ) (w : RegisteredWrite) → P table → P (action table w).table
  action_keeps table w p =
      let cleared = kept.by_mark table p 0 in
      each_action (λ (e : Effect). P e.table) table w p
      (write_keeps (put table registered_instruction 0) dropped cleared w.address (bytes_to_write w)) cleared
