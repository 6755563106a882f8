use mathlib.Core.Path.{ap, ap₂, ◌∙◌}
use Rattle.board.specs.declared.BoardStep.{BoardStep}
use Rattle.board.proofs.OneCall.{step_registered}
use Rattle.device_calls.specs.Calls.{state_of}
use Rattle.device_calls.proofs.Stays.{stays_accepted}
use Rattle.device_calls.proofs.GoalWithinLimits.{goal_within_limits}
use Rattle.board_in_step.proofs.Proved.{in_step}
use Rattle.board_in_step.proofs.Measuring.{in_step_measured}
use Rattle.plan_heard.proofs.OnBoard.{plan_carried_out}
use Rattle.fits.proofs.Slots.{board_fits}
use Rattle.capi_board.proofs.dxl_board_feed_parts.Goals as goal

pub returns : goal.returns
returns c =
    let e = c.feed.ensures in record {
      value = e.value;
      count_after = e.count_after;
      in_step = (in_step, in_step_measured, plan_carried_out, stays_accepted, goal_within_limits, board_fits);
      registered_after = ap₂ state_of e.count_after.1 (ap (λ (x : BoardStep). x.registered) e.value ∙ step_registered _ _);
    }
