-- What our planner's plans are, for all goals that are not refused.
use Rattle.std.specs.Prelude.{None}
use Rattle.std.specs.Prelude.{◌≡◌, List, ℕ, ◌≤◌, ℤ, length}
use Rattle.plan.specs.Goals.{goals_refusal}
use Rattle.plan.specs.Plan.{Plan}
use Rattle.plan.specs.Planner.{plan_packets, plan_of}

-- [W8]
pub record Planned : Type 0 where
  pub accepted : (goals : List ℤ) → goals_refusal goals ≡ None → Plan goals (plan_of goals)
  -- no plan that is accepted has fewer packets
  pub fewest : (goals : List ℤ) (bytes : List ℕ) → goals_refusal goals ≡ None → (plan : Plan goals bytes)
      → length (plan_packets goals) ≤ length plan.packets
