use mathlib.Core.Path.{◌≡◌}
use lib.ListN.{drop, replicate}
use Rattle.log_layout.specs.Layout.{entries, segments_by}
use Rattle.log_layout.proofs.Rounds.{entries_left}
use Rattle.log_index.proofs.Marks.{marked_all}
use Rattle.line_log.proofs.index_of.Given as goal

abbrev pub invariant-loop-number : goal.invariant-loop-number
invariant-loop-number l =
    marked_all 0 (replicate 254 0) (segments_by l.file (entries l.count (drop 16 l.file)))
    ≡ marked_all l.number l.index (segments_by l.file (entries_left l.file l.count l.number))
