use mathlib.Core.Path.{◌≡◌}
use lib.ListN.{length}
use Rattle.log_salvage.proofs.Packing.{Packing}
use Rattle.log_salvage.proofs.pack.Given as goal

abbrev pub invariant-loop-number : goal.invariant-loop-number
invariant-loop-number l = (length l.out ≡ length l.initial.out) × Packing l.file l.count l.kept l.initial.out l.out l.index l.limit l.at l.done l.number
