use mathlib.Core.Path.{sym, ap, ◌∙◌}
use lib.ListN.{length}
use Rattle.log_index.specs.Last.{index_size}
use Rattle.log_index.proofs.Index.{index_length}
use Rattle.log_layout.specs.Layout.{index_in, segments_in}
use Rattle.line_log.specs.Soundness.{same_numbers}
use Rattle.line_log.proofs.Rounds.{index_same}
use Rattle.line_log.proofs.Promises.{wrong_index, right_index}
use Rattle.line_log.proofs.check.Goals as goal

pub returns-then-not-index_right : goal.returns-then-not-index_right
returns-then-not-index_right c =
    let f = c.args.file.now in
    let e = ap (same_numbers (index_in f)) (sym c.index_of.ensures)
    ∙ sym (index_same f c.index_of.result (ap length c.index_of.ensures ∙ index_length index_size 0 (segments_in f))) ∙ sym c.index_right.ensures in
    sym (rw (wrong_index f (sym c.laid_out.ensures ∙ c.if-not-laid_out.false) (e ∙ c.if-not-index_right.true)))

pub returns : goal.returns
returns c =
    let f = c.args.file.now in
    let e = ap (same_numbers (index_in f)) (sym c.index_of.ensures)
    ∙ sym (index_same f c.index_of.result (ap length c.index_of.ensures ∙ index_length index_size 0 (segments_in f))) ∙ sym c.index_right.ensures in
    sym (rw (right_index f (sym c.laid_out.ensures ∙ c.if-not-laid_out.false) (e ∙ c.if-not-index_right.false)))
