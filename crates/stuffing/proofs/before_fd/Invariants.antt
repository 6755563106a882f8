use Rattle.stuffing.specs.Stuffing.{NoFd}
use Rattle.stuffing.proofs.before_fd.Given as goal

abbrev pub invariant-loop-i : goal.invariant-loop-i
invariant-loop-i l = NoFd l.body l.i
