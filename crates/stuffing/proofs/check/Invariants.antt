use mathlib.Core.Path.{◌≡◌}
use mathlib.Core.Bool.{false}
use Prim.Native.Nat.{◌+◌, ◌-◌, ◌≤◌}
use lib.ListN.{length}
use Rattle.stuffing.specs.Stuffing.{well_stuffed, unstuff}
use Rattle.stuffing.proofs.Rounds.{well_at, unstuffed_at, marked}
use Rattle.stuffing.proofs.check.Given as goal

abbrev pub invariant-loop-i : goal.invariant-loop-i
invariant-loop-i l = (l.i ≤ length l.body) × (l.n ≤ l.i) × (marked l.body l.i ≡ false) × (well_at l.body l.i ≡ well_stuffed l.body)
    × (l.n + length (unstuffed_at l.body l.i) ≡ length (unstuff l.body))

abbrev pub decreases-loop-i : goal.decreases-loop-i
decreases-loop-i l = length l.body - l.i
