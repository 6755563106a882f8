use Prim.Native.Nat.{◌-◌}
use lib.ListN.{length, get_or}
use Rattle.device_parameters.specs.Parameters.{entry_of}
use Rattle.device_parameters.proofs.Searching.{Searching, own_entry}
use Rattle.device_parameters.proofs.search.Given as goal

abbrev pub invariant-loop-at : goal.invariant-loop-at
invariant-loop-at l = Searching (entry_of l.kind) l.own l.params l.from l.marks l.at l.slot (own_entry (get_or l.marks l.own 0) l.found.slot l.found.offset)

abbrev pub decreases-loop-at : goal.decreases-loop-at
decreases-loop-at l = length l.params - l.at
