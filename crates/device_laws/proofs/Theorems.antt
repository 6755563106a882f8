-- What a refused instruction leaves.
use Rattle.std.specs.Prelude.{None, Option, Some}
use mathlib.Core.Path.{◌≡◌, refl}
use mathlib.Core.Bool.{Bool, true, false, cond, not, ◌&&◌, false≢true}
use mathlib.Core.List.{List, [], ◌∷◌}
use Prim.Native.Nat.{ℕ}
use native.Mathlib.Omega.{arith}
use lib.Dec.{eqb}
use lib.ListN.{length, set}
use borrow.Author.Tests.{eqb-true}
use Rattle.lists.proofs.Bools.{and_left, and_right}
use Rattle.answers.specs.Refusals.{unless_refused}
use Rattle.table_registers.specs.Registers.{table_size, registered_instruction}
use Rattle.table_items.specs.Items.{put}
use Rattle.table_rules.specs.Rules.{stored, write_rule}
use Rattle.table_access.proofs.Put.{put_byte}
use Rattle.device_instructions.specs.Registered.{registering, dropped, bytes_to_write, same_limits, kept_by}
use Rattle.device_instructions.specs.Instructions.{Effect, leaving, error_of, read, write, reg_write, action}
use Rattle.device_instructions.proofs.Options.{each_option}
use Rattle.device_dispatch.specs.Reactions.{heard_instruction, reaction}
use Rattle.device_laws.specs.Refused.{is_action, table_if_refused, registered_if_refused}
use Rattle.device_instructions.specs.declared.RegisteredWrite.{RegisteredWrite}
use Rattle.device_dispatch.specs.declared.Heard.{Heard}
use Rattle.device_dispatch.specs.declared.Heard.TheVariants.{Packet, BadChecksum}
use Rattle.device_laws.proofs.Every.{every}

module _ (table : List ℕ) (w : RegisteredWrite) (sized : length table ≡ table_size) where
  -- by whether it is an Action without parameters
  Refused : Bool → Effect → Type 0
  Refused acting e = ¬ (e.error ≡ 0)
      → (e.table ≡ cond (acting && not (eqb w.count 0)) (set table 69 0) table)
      × (e.registered ≡ cond (acting && not (eqb w.count 0)) dropped w)

  stays : (error : ℕ) (bytes : List ℕ) → Refused false (leaving table w error bytes)
  unfolding Refused
  stays error bytes n = (refl, refl)

  good : (acting : Bool) (e : Effect) → e.error ≡ 0 → Refused acting e
  unfolding Refused
  good acting e z n = absurd (n z)

  refused_write : (address : ℕ) (bytes : List ℕ) → Refused false (write table w address bytes)
  unfolding write
  refused_write address bytes = by_rule (write_rule table address bytes)
    where
      by_rule : (r : Option ℕ) → Refused false (leaving (unless_refused r table (stored table address bytes)) w (error_of r) [])
      by_rule None = good _ _ refl
      by_rule (Some number) = stays _ _

  refused_reg_write : (address : ℕ) (bytes : List ℕ) → Refused false (reg_write table w address bytes)
  unfolding reg_write
  refused_reg_write address bytes = by_rule (write_rule table address bytes)
    where
      by_rule : (r : Option ℕ)
          → Refused false (leaving (unless_refused r table (put table registered_instruction 1)) (kept_by r w (registering table address bytes)) (error_of r) [])
      by_rule None = good _ _ refl
      by_rule (Some number) = stays _ _

  refused_action : Refused true (action table w)
  unfolding action write Refused
  refused_action = by_count (eqb w.count 0) refl
    where
      by_rule : (r : Option ℕ) → eqb w.count 0 ≡ false
          → Refused true (leaving (unless_refused r (put table registered_instruction 0) (stored (put table registered_instruction 0) w.address (bytes_to_write w))) dropped (error_of r) [])
      by_rule None e = λ n. absurd (n refl)
      by_rule (Some number) e = λ n. rw e (put_byte table registered_instruction 0 refl (omega arith) (omega arith), refl)

      by_limits : (b : Bool) → same_limits table w ≡ b → eqb w.count 0 ≡ false → Refused true (action table w)
      by_limits true l e = rw (e, l) (rw e at (by_rule (write_rule (put table registered_instruction 0) w.address (bytes_to_write w)) e))
      by_limits false l e = rw (e, l) (λ n. (put_byte table registered_instruction 0 refl (omega arith) (omega arith), refl))

      by_count : (b : Bool) → eqb w.count 0 ≡ b → Refused true (action table w)
      by_count true e = rw e (λ n. (refl, refl))
      by_count false e = by_limits (same_limits table w) refl e

  left : (heard : Heard) (all : Bool) (body : List ℕ) → Refused (is_action heard body) (reaction heard all table w body).effect
  unfolding read
  left =
      every Refused table w (λ error le. stays _ _) (good _ _ refl) (good _ _ refl) (λ a n. stays _ _) refused_write refused_reg_write
      refused_action (good _ _ refl) (each_option (Refused false) table w (λ keeps low high. good _ _ refl) (stays _ _))

  -- a refused instruction leaves table and registered write, except that an Action has dropped the one it found
  pub refused : (heard : Heard) (all : Bool) (body : List ℕ) → ¬ ((reaction heard all table w body).effect.error ≡ 0)
      → ((reaction heard all table w body).effect.table ≡ table_if_refused table w heard body)
      × ((reaction heard all table w body).effect.registered ≡ registered_if_refused w heard body)
  unfolding Refused
  refused heard all body = left heard all body

-- an Action without parameters, to whomever it was sent
pub acting : (table : List ℕ) (w : RegisteredWrite) (heard : Heard) (all : Bool) (body : List ℕ) → is_action heard body ≡ true
    → (reaction heard all table w body).effect ≡ action table w
unfolding heard_instruction
acting table w BadChecksum all body e = absurd (false≢true e)
acting table w Packet all [] e = absurd (false≢true e)
acting table w Packet all (i ∷ params) e =
    let five = eqb-true i 0x05 (and_left (eqb i 0x05) (eqb (length params) 0) e) in
    let none-given = and_right (eqb i 0x05) (eqb (length params) 0) e in
    rw (five, none-given)
