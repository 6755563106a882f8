use mathlib.Core.Path.{◌≡◌}
use Prim.Native.Nat.{◌≤◌}
use lib.ListN.{length, drop, replicate}
use Rattle.log_index.proofs.Marks.{marked_all}
use Rattle.log_writer.specs.Writing.{sum, cut}
use Rattle.log_writer.proofs.index_of.Given as goal

abbrev pub invariant-loop-i : goal.invariant-loop-i
invariant-loop-i l = (sum (drop l.i l.lengths) ≤ length l.rest)
    × (marked_all 0 (replicate 254 0) (cut l.lengths l.bytes) ≡ marked_all l.i l.index (cut (drop l.i l.lengths) l.rest))
