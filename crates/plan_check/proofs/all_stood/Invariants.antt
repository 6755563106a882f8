use mathlib.Core.Path.{◌≡◌}
use Prim.Native.Nat.{ℕ, ◌<◌}
use Rattle.plan.specs.Goals.{wanted}
use Rattle.plan_check.specs.Checking.{past}
use Rattle.plan_check.proofs.all_stood.Given as goal

abbrev pub invariant-loop-id : goal.invariant-loop-id
invariant-loop-id l = (k : ℕ) → k < l.id → past l.goals l.stood k ≡ wanted l.goals k
