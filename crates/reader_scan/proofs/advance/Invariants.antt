use Prim.Native.Nat.{◌-◌}
use lib.ListN.{length}
use Rattle.packet_rules.specs.Answers.{settled_by}
use Rattle.packet_protocols.specs.Protocols.{shape_of, rules_of}
use Rattle.reader_scan.proofs.Seeking.{Sought}
use Rattle.reader_scan.proofs.advance.Given as goal

abbrev pub invariant-loop-protocol : goal.invariant-loop-protocol
invariant-loop-protocol l = Sought (rules_of l.protocol) (settled_by (shape_of l.protocol)) l.chunk l.past l.end

abbrev pub decreases-loop-protocol : goal.decreases-loop-protocol
decreases-loop-protocol l = length l.chunk - l.past
