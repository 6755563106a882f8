use mathlib.Core.Path.{◌≡◌}
use mathlib.Core.List.{[], ◌++◌}
use Prim.Native.Nat.{◌+◌, ◌*◌, ◌≤◌}
use lib.ListN.{length, take, drop}
use Rattle.lists.proofs.Filling.{Filling}
use Rattle.log_layout.specs.Log.{laid, segments_offset}
use Rattle.log_parts.proofs.put_index.Given as goal

abbrev pub invariant-loop-i : goal.invariant-loop-i
invariant-loop-i l = (length l.out ≡ length l.initial.out) × (segments_offset l.segments ≤ length l.initial.out) × Filling (take l.offset l.initial.out ++ laid l.fn.index []) l.initial.out l.out (l.offset + 4 * l.i) (laid (drop l.i l.fn.index) [])
