use mathlib.Core.List.{[]}
use mathlib.Core.Path.{sym, ap, ◌∙◌}
use borrow.Author.Tests.{eq-eqb}
use Rattle.device_instructions.specs.Instructions.{Effect, action}
use Rattle.device_instructions.specs.Results.{done_with, done_of}
use Rattle.device_instructions.proofs.Sized.{done}
use Rattle.device_instructions.proofs.Acting.{not_acted, acted}
use Rattle.device_instructions.specs.declared.RegisteredWrite.{RegisteredWrite}
use borrow.Author.Rules.{rules}
use Rattle.device_instructions.proofs.action.Goals as goal

pub returns-then-registered-eq0 : goal.returns-then-registered-eq0
unfolding action
returns-then-registered-eq0 c =
    let a = c.args in
    let e = eq-eqb a.registered.now.count 0 c.if-registered-eq0.true in let both = done a.table.now a.registered.now (action a.table.now a.registered.now) _ _ c.if-table-ne-TABLE_BYTES.false (rw e) (rw e) in record { value = both.0; table_after = both.1 }

pub returns-then-not-same : goal.returns-then-not-same
returns-then-not-same c =
    let a = c.args in
    let e = not_acted a.table.now a.registered.now c.if-table-ne-TABLE_BYTES.false c.if-registered-eq0.false (sym c.has_limits_of-same.ensures ∙ c.if-not-same.true) in let both = done a.table.now a.registered.now (action a.table.now a.registered.now) _ _ c.if-table-ne-TABLE_BYTES.false
    (ap (λ (w : RegisteredWrite). done_with 0x06 [] w) c.none.ensures ∙ ap done_of e)
    (ap (λ (f : Effect). f.table) e) in record { value = both.0; table_after = both.1 }

pub returns : goal.returns
returns c =
    let a = c.args in
    let good = sym c.has_limits_of-same.ensures ∙ c.if-not-same.false in
    let e = acted a.table.now a.registered.now c.if-table-ne-TABLE_BYTES.false c.if-registered-eq0.false c.min-n.result (search rules) good (rw c.from.ensures at c.min-n.ensures) in let both = done a.table.now a.registered.now (action a.table.now a.registered.now) _ _ c.if-table-ne-TABLE_BYTES.false (rw c.none.ensures at (c.write.ensures.value c.none.result) ∙ ap done_of e)
    (rw c.none.ensures at (c.write.ensures.table_after c.none.result) ∙ ap (λ (f : Effect). f.table) e) in record { value = rw c.none.ensures both.0; table_after = both.1 }
