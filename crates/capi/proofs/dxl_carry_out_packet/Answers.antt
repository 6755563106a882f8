use mathlib.Core.Path.{◌∙◌, ap, ap₂}
use Rattle.numbers.specs.declared.CarriedNumbers.{CarriedNumbers}
use Rattle.device_calls.specs.Calls.{state_of}
use Rattle.device.proofs.Promises.{device_promises}
use Rattle.device.proofs.Split.{split}
use Rattle.device_packet.proofs.Promises.{exchange_promises}
use Rattle.device_calls.proofs.Stays.{stays_accepted}
use Rattle.device_calls.proofs.GoalWithinLimits.{goal_within_limits}
use Rattle.capi.proofs.Carried.{by_parts}
use Rattle.fits.proofs.Slots.{device_fits}
use Rattle.capi.proofs.dxl_carry_out_packet.Goals as goal

pub returns : goal.returns
returns c =
    let e = c.carry_out-answer.ensures in
    let q = c.carried.ensures ∙ by_parts _ _ _ _ _ _ e.refused_value e.reply_value e.registered_after in record {
      value = q;
      table_after = (e.table_after, e.body_after);
      device_promises = (device_promises, split, exchange_promises, stays_accepted, goal_within_limits, device_fits);
      registered_after = ap₂ state_of e.table_after (ap (λ (x : CarriedNumbers). x.registered) q);
    }
