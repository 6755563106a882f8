use Rattle.packet_protocols.specs.Protocols.{rules_of}
use Rattle.reader_scan.proofs.Windows.{Filling}
use mathlib.Core.Path.{◌≡◌}
use Prim.Native.Nat.{◌+◌, ◌-◌, ◌≤◌}
use lib.ListN.{length, take, drop}
use Rattle.reader_scan.proofs.fill.Given as goal

abbrev pub invariant-loop-start : goal.invariant-loop-start
invariant-loop-start l = Filling (rules_of l.protocol) (take l.count l.initial.held) l.chunk (length l.initial.held) l.held l.taken l.at l.end × (l.end ≤ l.count + l.taken)
    × (drop (l.count + l.taken) l.held ≡ drop (l.count + l.taken) l.initial.held)

abbrev pub decreases-loop-start : goal.decreases-loop-start
decreases-loop-start l = length l.chunk - l.taken
