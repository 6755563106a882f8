use mathlib.Core.Path.{ap, ◌∙◌}
use mir.Facts.{to_z-of_z}
use mir.Syntax.{w64}
use mathlib.Core.List.{List}
use Prim.Native.Nat.{ℕ}
use Rattle.device_calls.specs.Calls.{state_of}
use Rattle.device_calls.proofs.Stays.{stays_accepted}
use Rattle.device_calls.proofs.GoalWithinLimits.{goal_within_limits}
use Rattle.table_rules.specs.Outcomes.{size_refusal}
use Rattle.answers.specs.Answers.{exported_done}
use Rattle.capi.proofs.Done.{done_is}
use Rattle.capi.proofs.dxl_fresh.Goals as goal

pub returns : goal.returns
returns c =
    let e = c.fresh in record {
      value = to_z-of_z {w = w64} (record { sfits = c.exported_done.type_inv }) ∙ c.exported_done.ensures ∙ ap exported_done e.ensures.value ∙ done_is (size_refusal c.args.table.now);
      table_after = e.ensures.table_after;
      w_after = (λ w. ap (λ (t : List ℕ). state_of t w) e.ensures.table_after);
      stays_accepted = (stays_accepted, goal_within_limits);
    }
