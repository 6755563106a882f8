use Prim.Native.Nat.{◌^◌, ◌<◌}
use Rattle.crc.specs.Crc.{crc_from}
use Rattle.crc.proofs.Laws.{Passed}
use Rattle.crc16_fold.specs.Fold.{register_of}
use Rattle.crc16_fold.proofs.tail.Given as goal

abbrev pub invariant-loop-byte : goal.invariant-loop-byte
invariant-loop-byte l = (l.u < 2 ^ 36) × Passed (crc_from (register_of l.number l.parity) l.bytes) l.bytes l.byte-index (register_of l.u l.p)
