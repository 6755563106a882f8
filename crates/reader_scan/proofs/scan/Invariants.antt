use mathlib.Core.Path.{◌≡◌}
use Prim.Native.Nat.{◌-◌, ◌≤◌}
use lib.ListN.{length, drop}
use Rattle.reading.specs.Reading.{open'}
use Rattle.reading.specs.Calls.{first}
use Rattle.packet_protocols.specs.Protocols.{rules_of}
use Rattle.reader_scan.proofs.scan.Given as goal

abbrev pub invariant-loop-protocol : goal.invariant-loop-protocol
invariant-loop-protocol l = (l.from ≤ l.next) × (l.next ≤ length l.s) × (first (rules_of l.protocol) open' (drop l.from l.s) ≡ first (rules_of l.protocol) open' (drop l.next l.s))

abbrev pub decreases-loop-protocol : goal.decreases-loop-protocol
decreases-loop-protocol l = length l.s - l.next
