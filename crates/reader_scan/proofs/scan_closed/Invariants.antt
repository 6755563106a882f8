use mathlib.Core.Path.{◌≡◌}
use Prim.Native.Nat.{◌-◌, ◌≤◌}
use lib.ListN.{length, drop}
use Rattle.reading.specs.Reading.{closed}
use Rattle.reading.specs.Calls.{first}
use Rattle.packet_protocols.specs.Protocols.{rules_of}
use Rattle.reader_scan.proofs.scan_closed.Given as goal

abbrev pub invariant-loop-protocol : goal.invariant-loop-protocol
invariant-loop-protocol l = (l.from ≤ length l.segment) × (first (rules_of l.protocol) closed l.segment ≡ first (rules_of l.protocol) closed (drop l.from l.segment))

abbrev pub decreases-loop-protocol : goal.decreases-loop-protocol
decreases-loop-protocol l = length l.segment - l.from
