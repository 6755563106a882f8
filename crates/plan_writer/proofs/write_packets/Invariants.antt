use Rattle.plan_writer.proofs.Sending.{Sending}
use Rattle.plan_writer.proofs.write_packets.Given as goal

abbrev pub invariant-loop-left : goal.invariant-loop-left
invariant-loop-left l = Sending l.goals l.initial.out l.out l.left l.next l.at

abbrev pub decreases-loop-left : goal.decreases-loop-left
decreases-loop-left l = l.left
