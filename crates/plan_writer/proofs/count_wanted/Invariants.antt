use mathlib.Core.Path.{◌≡◌}
use Prim.Native.Nat.{◌+◌, ◌≤◌}
use lib.ListN.{length}
use Rattle.plan.specs.Planner.{entries_from}
use Rattle.plan_writer.specs.Filling.{entries_at}
use Rattle.plan_writer.proofs.count_wanted.Given as goal

abbrev pub invariant-loop-id : goal.invariant-loop-id
invariant-loop-id l = (l.n ≤ l.id) × (l.n + length (entries_at l.goals l.id) ≡ length (entries_from l.goals 0))
