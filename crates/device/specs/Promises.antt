-- What the device call keeps to, over all calls.
use Rattle.device.specs.Demand1.{Demand1}
use Rattle.device.specs.Written.{StatusWritten, SlotWithin}
use Rattle.device.specs.ActionLimits.{ActionNeedsSameLimits}

pub record DevicePromises : Type 0 where
  pub demand_1 : Demand1
  pub status_written : StatusWritten
  pub slot_within : SlotWithin
  pub action_needs_same_limits : ActionNeedsSameLimits
