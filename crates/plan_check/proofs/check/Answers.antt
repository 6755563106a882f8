use Rattle.std.specs.Prelude.{None}
use Rattle.std.proofs.lemmas.Result.{err_from_is_err_and}
use mathlib.Core.Path.{◌≡◌, sym}
use Rattle.answers.proofs.Laws.{counted, refused}
use Rattle.plan.specs.Goals.{goals_refusal}
use Rattle.plan.proofs.Wanted.{goals_counted}
use Rattle.plan_check.proofs.check.Goals as goal
use Rattle.plan_check.proofs.check.Goals.{In_ok-test_goals}

-- the goals are not refused
good : (c : In_ok-test_goals) → goals_refusal c.args.goals.now ≡ None
good c = (counted _ tt _ (sym c.in_ok-test_goals.ensures)).0

pub returns-in_err-test_goals : goal.returns-in_err-test_goals
returns-in_err-test_goals c =
    let p = err_from_is_err_and c.from_residual.result c.from_residual.ensures.1 in
    rw (p.1, p.2) (refused _ tt _ (sym c.in_err-test_goals.ensures))

pub is_plan-requires : goal.is_plan-requires
is_plan-requires c = goals_counted _ (good c)

pub returns : goal.returns
returns c = (good (goal.at.returns c).In_ok-test_goals, c.is_plan.ensures)
