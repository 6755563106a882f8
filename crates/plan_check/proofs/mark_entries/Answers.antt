use mathlib.Core.Path.{sym, ◌∙◌}
use native.Mathlib.Omega.{arith}
use Rattle.plan_check.proofs.Marks.{none_in_short, none_found, some_found}
use Rattle.plan_check.proofs.mark_entries.Goals as goal

pub returns-then-params-le-LIST : goal.returns-then-params-le-LIST
returns-then-params-le-LIST c = λ some. absurd (none_in_short c.args.params.now c.if-params-le-LIST.true some)

pub returns-in_default : goal.returns-in_default
returns-in_default c = λ some. absurd (none_found c.args.params.now (omega (arith, c.if-params-le-LIST.false)) (sym c.sync_search.ensures ∙ c.in_default.is) some)

pub mark_list-requires : goal.mark_list-requires
mark_list-requires c = (c.requires.0, c.requires.1, some_found c.args.params.now _ _ (omega (arith, c.if-params-le-LIST.false)) (sym c.in-Some.ensures))
