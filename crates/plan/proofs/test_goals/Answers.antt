use mathlib.Core.Path.{◌≡◌, sym, ◌∙◌}
use mathlib.Core.Bool.{true, false}
use borrow.Author.Tests.{eq-eqb, ne_eqb}
use Rattle.plan.specs.Goals.{goals_within, goals_refusal}
use Rattle.plan.proofs.Wanted.{within_all}
use Rattle.plan.proofs.test_goals.Goals as goal

pub returns-then-goals-ne-IDS : goal.returns-then-goals-ne-IDS
unfolding goals_refusal
returns-then-goals-ne-IDS c = rw (ne_eqb _ _ c.if-goals-ne-IDS.true)

pub returns-then-not-goals_within : goal.returns-then-not-goals_within
unfolding goals_refusal
returns-then-not-goals_within c =
    let e : goals_within c.args.goals.now ≡ false = sym (c.goals_within.ensures ∙ within_all _) ∙ c.if-not-goals_within.true in
    rw (eq-eqb _ _ c.if-goals-ne-IDS.false, e)

pub returns : goal.returns
unfolding goals_refusal
returns c =
    let e : goals_within c.args.goals.now ≡ true = sym (c.goals_within.ensures ∙ within_all _) ∙ c.if-not-goals_within.false in
    rw (eq-eqb _ _ c.if-goals-ne-IDS.false, e)
