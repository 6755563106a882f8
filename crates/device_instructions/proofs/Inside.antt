-- A goal position between the limits stays there, whatever is done with the table.
use mathlib.Core.Path.{◌≡◌, refl, ◌∙◌}
use mathlib.Core.Bool.{true, false}
use mathlib.Core.List.{List}
use Prim.Native.Nat.{ℕ, ◌≤◌}
use native.Mathlib.Omega.{arith}
use lib.ListN.{length}
use borrow.Author.Tests.{eq-eqb}
use Rattle.lists.specs.Numbers.{number_at, bytes_of}
use Rattle.lists.proofs.Numbers.{bytes_length}
use Rattle.table_registers.specs.Registers.{Register, registers, table_size, end_of, present_position, hardware_error, registered_instruction}
use Rattle.table_items.specs.Items.{value_at, put, unsigned}
use Rattle.table_rules.specs.Rules.{touches_limits, goal_inside}
use Rattle.table_rules.proofs.Stored.{stored_length}
use Rattle.table_rules.proofs.WriteStages.{good_write}
use Rattle.table_rules.proofs.Size.{in_table_lem}
use Rattle.table_rules.proofs.Limits.{untouched, kept_inside}
use Rattle.table_rules.proofs.LimitTests.{around}
use Rattle.table_access.specs.Fresh.{freshened, fresh_table}
use Rattle.table_access.proofs.Theorems.{write_inside}
use Rattle.table_resets.proofs.Values.{rebooted_length, rebooted_inside, reset_length, reset_ordered}
use Rattle.device_instructions.proofs.Kept.{Kept}

pub record Inside (table : List ℕ) : Type 0 where
  pub sized : length table ≡ table_size
  pub between : goal_inside table ≡ true

-- a number in the place of a register that is none of the three
put_inside : (table : List ℕ) → Inside table → (r : Register) (u : ℕ) → end_of r ≤ table_size → touches_limits r.address r.bytes ≡ false
    → Inside (put table r u)
unfolding put
put_inside table i r u fits apart =
    let l = bytes_length r.bytes u in
    let s = i.sized in
    record {
      sized = stored_length table r.address (bytes_of r.bytes u) (omega arith) ∙ s;
      between = untouched table r.address (bytes_of r.bytes u) (omega arith) (rw l apart) ∙ i.between;
    }

pub fresh_inside : Inside fresh_table
unfolding registers number_at value_at bytes_of put freshened goal_inside
fresh_inside = record { sized = refl; between = refl }

pub inside_kept : Kept Inside
inside_kept =
    record {
      by_fresh = λ table i. rw (eq-eqb (length table) table_size i.sized) fresh_inside;
      by_measurement = λ table i position error.
          rw (eq-eqb (length table) table_size i.sized)
          (put_inside (put table present_position (unsigned position)) (put_inside table i present_position (unsigned position) (omega arith) refl) hardware_error error (omega arith) refl);
      by_write = λ table i address bytes e.
          let good = in_table_lem table i.sized _ ∙ e in
          let fits = write_inside table address bytes good in
          record {
            sized = stored_length table address bytes fits ∙ i.sized;
            between = kept_inside table address bytes fits i.between (good_write table address bytes good).limits;
          };
      by_mark = λ table i b. put_inside table i registered_instruction b (omega arith) refl;
      by_reboot = λ table i.
          record { sized = rebooted_length table i.sized; between = rebooted_inside table i.sized (around table i.between) };
      by_reset = λ table i keeps low high.
          let l = reset_length table i.sized keeps in
          record {
            sized = rebooted_length _ l;
            between = rebooted_inside _ l (reset_ordered table i.sized keeps low high);
          };
    }
