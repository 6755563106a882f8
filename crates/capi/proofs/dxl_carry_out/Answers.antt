use mathlib.Core.Path.{sym, ap, ap₂, ◌∙◌}
use Rattle.numbers.specs.declared.CarriedNumbers.{CarriedNumbers}
use Rattle.device_calls.specs.Calls.{state_of}
use Rattle.device.proofs.Promises.{device_promises}
use Rattle.table_rules.proofs.LimitTests.{limit_tests}
use Rattle.device_calls.proofs.Stays.{stays_accepted}
use Rattle.device_calls.proofs.GoalWithinLimits.{goal_within_limits}
use Rattle.device.proofs.Split.{split}
use Rattle.capi.proofs.Carried.{by_parts}
use Rattle.fits.proofs.Slots.{device_fits}
use Rattle.capi.proofs.dxl_carry_out.Goals as goal

pub returns-clause-device_promises : goal.returns-clause-device_promises
returns-clause-device_promises c = (device_promises, split, stays_accepted, goal_within_limits, limit_tests, device_fits)
