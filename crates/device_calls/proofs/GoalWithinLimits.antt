-- No list of calls takes the goal position out of the limits.
use Rattle.std.specs.Prelude.{None}
use mathlib.Core.Path.{◌≡◌, refl}
use mathlib.Core.Bool.{true}
use lib.ListN.{length}
use lib.Signed.{le_z}
use borrow.Author.Tests.{eq-eqb}
use Rattle.table_registers.specs.Registers.{table_size, min_position, max_position}
use Rattle.table_items.specs.Items.{value_of}
use Rattle.table_resets.proofs.Values.{rebooted_length, rebooted_inside}
use Rattle.device_instructions.proofs.Inside.{Inside, fresh_inside, inside_kept}
use Rattle.device_dispatch.specs.Reactions.{own_id, heard_instruction}
use Rattle.device.specs.Device.{executed}
use Rattle.device.proofs.Calls.{state_accepted}
use Rattle.device_calls.specs.Calls.{State, fresh, after_call, refusal_in}
use Rattle.device_calls.specs.GoalWithinLimits.{reboot_of, GoalWithinLimits}
use Rattle.device_calls.proofs.Kept.{all_keep}

-- a fresh call leaves the fresh table, in which it is between them
made : (s : State) → length s.table ≡ table_size → Inside (after_call s fresh).table
made s sized = rw (eq-eqb (length s.table) table_size sized) fresh_inside

-- a Reboot puts it at min position
booted : (s : State) → refusal_in s ≡ None → le_z (value_of min_position s.table) (value_of max_position s.table) ≡ true
    → Inside (after_call s (reboot_of s)).table
unfolding executed heard_instruction
booted s e ordered =
    let sized = (state_accepted s.table s.registered e).sized in
    rw (e, eq-eqb (own_id s.table) (own_id s.table) refl)
    (record { sized = rebooted_length s.table sized; between = rebooted_inside s.table sized ordered })

pub goal_within_limits : GoalWithinLimits
goal_within_limits =
    record {
      stays = λ s calls sized between. (all_keep Inside inside_kept calls s (record { sized = sized; between = between })).between;
      from_reboot = λ s calls e ordered. (all_keep Inside inside_kept calls (after_call s (reboot_of s)) (booted s e ordered)).between;
      always = λ s calls sized. (all_keep Inside inside_kept calls (after_call s fresh) (made s sized)).between;
    }
