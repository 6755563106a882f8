use mathlib.Core.Path.{◌≡◌}
use mathlib.Core.Bool.{true, false}
use Prim.Native.Nat.{◌-◌, ◌≤◌}
use lib.ListN.{length}
use Rattle.lists.proofs.Filling.{Filling}
use Rattle.stuffing.specs.Stuffing.{unstuff}
use Rattle.stuffing.proofs.Rounds.{well_at, unstuffed_at, marked}
use Rattle.stuffing.proofs.write_unstuffed.Given as goal

abbrev pub invariant-loop-i : goal.invariant-loop-i
invariant-loop-i l = (l.i ≤ length l.body) × (marked l.body l.i ≡ false) × (well_at l.body l.i ≡ true) × Filling (unstuff l.body) l.initial.out l.out l.j (unstuffed_at l.body l.i)

abbrev pub decreases-loop-i : goal.decreases-loop-i
decreases-loop-i l = length l.body - l.i
