use lib.ListN.{length, take, drop}
use Rattle.reading.specs.Calls.{fed}
use Rattle.reading.specs.Progress.{Reached}
use Rattle.packet_protocols.specs.Protocols.{rules_of}
use Rattle.reader_core.specs.Results.{most_held}
use mathlib.Core.Path.{◌≡◌}
use Prim.Native.Nat.{◌+◌, ◌-◌, ◌≤◌}
use Rattle.reader_core.proofs.feed_slices.Given as goal

abbrev pub invariant-loop-seen : goal.invariant-loop-seen
invariant-loop-seen l = (l.n ≤ most_held l.protocol) × (length l.held ≡ most_held l.protocol) ×
    (length l.packet ≡ (rules_of l.protocol).longest) × Reached (rules_of l.protocol) (take l.count l.initial.held) l.chunk (take l.n l.held) l.taken ×
    -- all that is to be looked at was l.held or l.taken; what lies behind what was l.held and what the call takes stays
    (l.n ≤ l.count + l.taken) ×
    (drop (l.count + (fed (rules_of l.protocol) (take l.count l.initial.held) l.chunk).taken) l.held ≡ drop (l.count + (fed (rules_of l.protocol) (take l.count l.initial.held) l.chunk).taken) l.initial.held) ×
    (l.count + (fed (rules_of l.protocol) (take l.count l.initial.held) l.chunk).taken ≤ most_held l.protocol → l.packet ≡ l.initial.packet)

abbrev pub decreases-loop-seen : goal.decreases-loop-seen
decreases-loop-seen l = length l.chunk - l.taken
