use mathlib.Core.Path.{sym, ap, ◌∙◌}
use Rattle.log_index.proofs.Rounds.{last_by, last_start}
use Rattle.log_index.proofs.last_in.Goals as goal

pub returns : goal.returns
returns c =
    let l = c.loop-event in
    sym (last_start _ _ ∙ l.invariant ∙ ap (last_by c.args.wanted l.last) c.in-None.ensures.steps.0)
