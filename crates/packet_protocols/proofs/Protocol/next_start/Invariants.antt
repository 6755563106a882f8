use mathlib.Core.Path.{◌≡◌}
use Prim.Native.Nat.{◌+◌, ◌-◌}
use lib.ListN.{length, drop}
use Rattle.packet_rules.specs.Starts.{before_start}
use Rattle.packet_protocols.specs.Protocols.{may_begin_of}
use Rattle.packet_protocols.proofs.Protocol.next_start.Given as goal

abbrev pub invariant-loop-at : goal.invariant-loop-at
invariant-loop-at l = l.from + before_start (may_begin_of l.self) (drop l.from l.segment) ≡ l.at + before_start (may_begin_of l.self) (drop l.at l.segment)

abbrev pub decreases-loop-at : goal.decreases-loop-at
decreases-loop-at l = length l.segment - l.at
