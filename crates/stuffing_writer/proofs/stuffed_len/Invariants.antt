use mathlib.Core.Path.{◌≡◌}
use mathlib.Core.List.{◌∷◌}
use Prim.Native.Nat.{◌+◌, ◌-◌, ◌≤◌}
use lib.ListN.{length}
use Rattle.stuffing.specs.Stuffing.{stuff}
use Rattle.stuffing_writer.proofs.Rounds.{stuffed_at}
use Rattle.stuffing_writer.proofs.stuffed_len.Given as goal

abbrev pub invariant-loop-i : goal.invariant-loop-i
invariant-loop-i l = (l.n ≤ length l.rest + 1 + l.i)
    × (l.n + length (stuffed_at l.first l.rest l.i) ≡ length (stuff (l.first ∷ l.rest)) + (length l.rest - l.i))
