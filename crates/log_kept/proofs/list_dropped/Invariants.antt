use mathlib.Core.Path.{◌≡◌}
use lib.ListN.{length}
use Rattle.log_kept.proofs.Rounds.{Listing}
use Rattle.log_kept.proofs.list_dropped.Given as goal

abbrev pub invariant-loop-number : goal.invariant-loop-number
invariant-loop-number l = (length l.report ≡ length l.initial.report) × Listing l.file l.count l.initial.report l.report l.limit l.bytes l.dropped l.number
