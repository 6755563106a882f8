use mathlib.Core.Path.{◌≡◌}
use lib.ListN.{length, drop}
use Rattle.log_layout.specs.Log.{segments_offset}
use Rattle.log_layout.specs.Layout.{entries, chained}
use Rattle.log_layout.proofs.Rounds.{entries_left}
use Rattle.log_layout.proofs.segments_chained.Given as goal

abbrev pub invariant-loop-number : goal.invariant-loop-number
invariant-loop-number l =
    chained (entries l.count (drop 16 l.file)) (segments_offset l.count) (length l.file)
    ≡ chained (entries_left l.file l.count l.number) l.end (length l.file)
