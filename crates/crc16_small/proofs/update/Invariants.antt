use Rattle.crc.specs.Crc.{crc_from}
use Rattle.crc.proofs.Lookup.{Rule}
use Rattle.crc.proofs.Laws.{Passed}
use Rattle.crc16_small.proofs.update.Given as goal

abbrev pub invariant-loop-byte : goal.invariant-loop-byte
invariant-loop-byte l = Rule 12 4 l.table × Passed (crc_from l.start l.bytes) l.bytes l.byte-index l.crc
