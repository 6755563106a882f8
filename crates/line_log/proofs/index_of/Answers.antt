use mathlib.Core.Path.{sym, ap, ◌∙◌}
use mathlib.Core.List.{List}
use Prim.Native.Nat.{ℕ, ◌+◌}
use borrow.Author.Rules.{rules}
use Rattle.reading.specs.Reading.{reading}
use Rattle.packet.specs.Verdict.{protocol2}
use Rattle.log_layout.specs.Layout.{entries, segments_by, segments_in}
use Rattle.log_layout.proofs.Rounds.{entries_left}
use Rattle.log_index.specs.Marks.{marked}
use Rattle.log_index.proofs.Marks.{marked_all, all_marked}
use Rattle.line_log.proofs.Rounds.{marked_turn, marked_end}
use lib.ListN.{drop, replicate}
use Rattle.line_log.proofs.index_of.Goals as goal

pub loop-number-preserved : goal.loop-number-preserved
loop-number-preserved c =
    let l = c.loop-number in
    let n = c.number_at-count.result in
    let f = c.args.file.now in
    l.invariant ∙ marked_turn f l.index n l.number (search rules)
    ∙ ap (λ (xs : List ℕ). marked_all (l.number + 1) xs (segments_by f (entries_left f n (l.number + 1))))
    (sym (c.mark.ensures ∙ ap (λ (s : List ℕ). marked (l.number + 1) l.index (reading protocol2 s)) (rw c.entry.ensures at c.bytes_in-segment.ensures)))

pub returns : goal.returns
returns c =
    let l = c.loop-number in
    let n = c.number_at-count in
    let f = c.args.file.now in
    sym
    (sym (all_marked (segments_in f))
    ∙ ap (λ (k : ℕ). marked_all 0 (replicate 254 0) (segments_by f (entries k (drop 16 f)))) (sym n.ensures)
    ∙ l.invariant ∙ marked_end f l.index n.result l.number (search rules))
