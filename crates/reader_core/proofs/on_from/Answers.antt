use mathlib.Core.Path.{sym, ap}
use native.Mathlib.Omega.{arith}
use Rattle.reader_scan.specs.Scan.{on_from}
use Rattle.reader_core.proofs.on_from.Goals as goal

pub overflow_add-result : goal.overflow_add-result
overflow_add-result c =
    let h = rw c.in-Packet.is at c.requires in
    omega arith

pub overflow_add-result-in-BadChecksum : goal.overflow_add-result-in-BadChecksum
overflow_add-result-in-BadChecksum c =
    let h = rw c.in-BadChecksum.is at c.requires in
    omega arith

pub returns-in-Packet : goal.returns-in-Packet
returns-in-Packet c = sym (ap on_from c.in-Packet.is)

pub returns-in-BadChecksum : goal.returns-in-BadChecksum
returns-in-BadChecksum c = sym (ap on_from c.in-BadChecksum.is)
