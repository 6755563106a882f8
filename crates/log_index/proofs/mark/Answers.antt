use mathlib.Core.Path.{sym, ap, ◌∙◌}
use Rattle.log_index.proofs.Rounds.{marked_by, marked_start}
use Rattle.log_index.proofs.mark.Goals as goal

pub returns : goal.returns
returns c =
    let l = c.loop-event in
    sym (marked_start _ _ _ ∙ l.invariant ∙ ap (marked_by c.args.number l.index) c.in-None.ensures.steps.0)
