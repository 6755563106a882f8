use Prim.Native.Nat.{◌^◌, ◌<◌}
use Rattle.crc.specs.Crc.{crc_from}
use Rattle.crc.proofs.Lookup.{Rule, kept}
use Rattle.crc.proofs.Laws.{Passed}
use Rattle.crc16.proofs.update.Given as goal

abbrev pub invariant-loop-byte : goal.invariant-loop-byte
invariant-loop-byte l = Rule 8 8 l.table × (l.last < 2 ^ 16) × Passed (crc_from l.start l.bytes) l.bytes l.byte-index (kept l.last l.before)
