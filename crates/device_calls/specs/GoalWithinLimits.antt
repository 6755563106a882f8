-- The goal position stays between the limits: min position ≤ goal position ≤ max position, as signed numbers (`goal_inside`).
use Rattle.std.specs.Prelude.{None}
use Rattle.std.specs.Prelude.{◌≡◌, true, List, [], ◌∷◌, length}
use Rattle.std.specs.Int.Signed.{le_z}
use Rattle.table_registers.specs.Registers.{table_size, min_position, max_position}
use Rattle.table_items.specs.Items.{value_of}
use Rattle.table_rules.specs.Rules.{goal_inside}
use Rattle.device_dispatch.specs.Reactions.{own_id}
use Rattle.device_dispatch.specs.declared.Heard.TheVariants.{Packet}
use Rattle.device_calls.specs.Calls.{State, DeviceCall, fresh, carry, after_all, refusal_in}

-- a Reboot that the device hears
abbrev pub reboot_of : State → DeviceCall
reboot_of s = carry Packet (own_id s.table) (0x08 ∷ [])

-- after every list of calls, whatever is heard or lent, whichever of them are refused [T20]
pub record GoalWithinLimits : Type 0 where
  -- from a table in which it is between them
  pub stays : (s : State) (calls : List DeviceCall) → length s.table ≡ table_size → goal_inside s.table ≡ true
      → goal_inside (after_all s calls).table ≡ true
  -- and from a Reboot on, as at power-up, whatever the goal position was, if min position is not above max position
  pub from_reboot : (s : State) (calls : List DeviceCall) → refusal_in s ≡ None
      → le_z (value_of min_position s.table) (value_of max_position s.table) ≡ true
      → goal_inside (after_all s (reboot_of s ∷ calls)).table ≡ true
  -- and from a fresh call on, whatever the table was
  pub always : (s : State) (calls : List DeviceCall) → length s.table ≡ table_size → goal_inside (after_all s (fresh ∷ calls)).table ≡ true
