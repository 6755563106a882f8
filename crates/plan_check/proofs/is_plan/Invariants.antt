use Prim.Native.Nat.{◌-◌}
use lib.ListN.{length}
use Rattle.plan_check.proofs.Rests.{Halfway}
use Rattle.plan_check.proofs.is_plan.Given as goal

abbrev pub invariant-loop-at : goal.invariant-loop-at
invariant-loop-at l = Halfway l.goals l.plan l.stood l.at

abbrev pub decreases-loop-at : goal.decreases-loop-at
decreases-loop-at l = length l.plan - l.at
