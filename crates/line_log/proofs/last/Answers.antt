use mathlib.Core.Path.{◌≡◌, sym, ap, ◌∙◌}
use Prim.Native.Nat.{suc, ◌-◌}
use native.Mathlib.Omega.{arith}
use Rattle.line_log.specs.Question.{found}
use Rattle.line_log.proofs.Promises.{bad_layout, bad_id, answered_by_lem, none_named, one_named}
use Rattle.line_log.proofs.last.Goals as goal

pub returns-then-not-laid_out : goal.returns-then-not-laid_out
returns-then-not-laid_out c = sym (bad_layout _ _ (sym c.laid_out.ensures ∙ c.if-not-laid_out.true))

pub returns-then-not-good_id : goal.returns-then-not-good_id
returns-then-not-good_id c =
    sym
    (bad_id _ _ (sym c.laid_out.ensures ∙ c.if-not-laid_out.false)
    (sym c.good_id.ensures ∙ c.if-not-good_id.true))

pub returns-then-number-eq0 : goal.returns-then-number-eq0
returns-then-number-eq0 c =
    let l = sym c.laid_out.ensures ∙ c.if-not-laid_out.false in
    sym
    (answered_by_lem _ _ l (sym c.good_id.ensures ∙ c.if-not-good_id.false)
    ∙ ap found (none_named _ _ l (sym c.index_number-number.ensures ∙ c.if-number-eq0.true)))

pub returns : goal.returns
returns c =
    let l = sym c.laid_out.ensures ∙ c.if-not-laid_out.false in
    let n = c.index_number-number.result in
    let e : n ≡ suc (n - 1) = omega (arith, c.if-number-eq0.false) in
    c.last_named.ensures
    ∙ sym
    (answered_by_lem _ _ l (sym c.good_id.ensures ∙ c.if-not-good_id.false)
    ∙ ap found (one_named _ _ l (n - 1) (sym c.index_number-number.ensures ∙ e)))
