use Rattle.plan_check.proofs.Marks.{Marking}
use Rattle.plan_check.proofs.mark_list.Given as goal

abbrev pub invariant-loop-at : goal.invariant-loop-at
invariant-loop-at l = Marking l.goals l.params l.initial.stood l.stood l.at
