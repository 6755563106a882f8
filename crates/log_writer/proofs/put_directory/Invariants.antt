use mathlib.Core.Path.{◌≡◌}
use mathlib.Core.List.{[], ◌++◌}
use Prim.Native.Nat.{◌+◌, ◌*◌}
use lib.ListN.{length, take, drop}
use Rattle.lists.proofs.Filling.{Filling}
use Rattle.log_layout.specs.Log.{laid, numbers_of, segments_offset}
use Rattle.log_writer.specs.Writing.{sum, directory_by}
use Rattle.log_writer.proofs.put_directory.Given as goal

abbrev pub invariant-loop-i : goal.invariant-loop-i
invariant-loop-i l = (length l.out ≡ length l.initial.out) × (l.start + sum (drop l.i l.lengths) ≡ segments_offset (length l.lengths) + sum l.lengths)
    × Filling (take 16 l.initial.out ++ laid (numbers_of (directory_by (segments_offset (length l.lengths)) l.lengths)) []) l.initial.out l.out (16 + 8 * l.i)
    (laid (numbers_of (directory_by l.start (drop l.i l.lengths))) [])
