use mathlib.Core.Path.{◌≡◌}
use Prim.Native.Nat.{◌^◌, ◌<◌}
use lib.ListN.{length}
use Rattle.crc.specs.Crc.{crc_from}
use Rattle.crc16_fold.specs.Fold.{register_of}
use Rattle.crc16_fold.proofs.update.Given as goal

abbrev pub invariant-loop-eight : goal.invariant-loop-eight
invariant-loop-eight l = (l.u < 2 ^ 36) × (crc_from (register_of l.u l.p) l.rest ≡ crc_from l.start l.bytes)

abbrev pub decreases-loop-eight : goal.decreases-loop-eight
decreases-loop-eight l = length l.rest
