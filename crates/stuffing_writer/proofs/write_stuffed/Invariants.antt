use mathlib.Core.List.{◌∷◌}
use Prim.Native.Nat.{◌≤◌}
use lib.ListN.{length}
use Rattle.lists.proofs.Filling.{Filling}
use Rattle.stuffing.specs.Stuffing.{stuff}
use Rattle.stuffing_writer.proofs.Rounds.{stuffed_at}
use Rattle.stuffing_writer.proofs.write_stuffed.Given as goal

abbrev pub invariant-loop-i : goal.invariant-loop-i
invariant-loop-i l = (l.i ≤ length l.rest) × Filling (stuff (l.first ∷ l.rest)) l.initial.out l.out l.j (stuffed_at l.first l.rest l.i)
