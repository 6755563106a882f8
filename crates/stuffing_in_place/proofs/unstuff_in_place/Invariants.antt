use Prim.Native.Nat.{◌-◌}
use lib.ListN.{length}
use Rattle.stuffing_in_place.proofs.Within.{Within}
use Rattle.stuffing_in_place.proofs.unstuff_in_place.Given as goal

abbrev pub invariant-loop-i : goal.invariant-loop-i
invariant-loop-i l = Within l.initial.body l.body 0 l.a l.b l.j l.i

abbrev pub decreases-loop-i : goal.decreases-loop-i
decreases-loop-i l = length l.initial.body - l.i
