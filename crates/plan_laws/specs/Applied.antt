-- What is promised of our planner's plans, applied to the worked one: it is a plan, and has no more packets than itself or the one in
-- two. And to a goal for each device: every plan has two packets at least.
use Rattle.std.specs.Prelude.{List, ℕ, ◌≤◌, ℤ, pos, length, replicate}
use Rattle.plan.specs.Plan.{Plan}
use Rattle.plan.specs.Planner.{plan_packets}
use Rattle.plan.specs.Samples.{two_goals, plan_of_two}
use Rattle.plan_laws.specs.Planned.{Planned}

abbrev pub all_goals : List ℤ
all_goals = replicate 253 (pos 4095)

abbrev pub PlannedApplied : Type 0
PlannedApplied =
    Planned
    → Plan two_goals plan_of_two
    × (length (plan_packets two_goals) ≤ 1)
    × (length (plan_packets two_goals) ≤ 2)
    × ((bytes : List ℕ) (plan : Plan all_goals bytes) → 2 ≤ length plan.packets)
