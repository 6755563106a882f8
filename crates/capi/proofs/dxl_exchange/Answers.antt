use mathlib.Core.Path.{ap₂, ◌∙◌}
use Rattle.device_calls.specs.Calls.{state_of}
use Rattle.device.proofs.Promises.{device_promises}
use Rattle.device_packet.proofs.Promises.{exchange_promises}
use Rattle.device_calls.proofs.Stays.{stays_accepted}
use Rattle.device_calls.proofs.GoalWithinLimits.{goal_within_limits}
use Rattle.cases.proofs.Cases.{cases_hold}
use Rattle.numbers.specs.Exported.{device_numbers}
use Rattle.capi.proofs.Carried.{its_registered}
use Rattle.fits.proofs.Slots.{device_fits}
use Rattle.capi.proofs.dxl_exchange.Goals as goal

pub returns : goal.returns
returns c =
    let e = c.answer-answer.ensures in
    let q = c.response.ensures ∙ ap₂ device_numbers e.answer_value e.registered_after in record {
      value = q;
      table_after = (e.table_after, e.body_after, e.out_after);
      device_promises = (device_promises, exchange_promises, stays_accepted, goal_within_limits, cases_hold, device_fits);
      registered_after = ap₂ state_of e.table_after (its_registered _ e.answer_value e.registered_after c.response.ensures);
    }
