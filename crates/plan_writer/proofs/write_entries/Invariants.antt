use Rattle.plan_writer.proofs.Writing.{Filling}
use Rattle.plan_writer.proofs.write_entries.Given as goal

abbrev pub invariant-loop-id : goal.invariant-loop-id
invariant-loop-id l = Filling l.goals l.from l.k l.initial.out l.out l.id l.i
