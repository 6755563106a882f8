use Rattle.std.specs.Prelude.{None, Some}
use Rattle.std.proofs.lemmas.Result.{err_from_is_err_and}
use mathlib.Core.Path.{◌≡◌, sym, ap, ◌∙◌}
use mathlib.Core.Bool.{true, cond}
use Prim.Native.Nat.{ℕ, ◌+◌, ◌≤◌}
use native.Mathlib.Omega.{arith}
use lib.ListN.{length}
use borrow.Author.Tests.{eqb-true, eqb-false}
use Rattle.table_registers.specs.Registers.{every_byte}
use Rattle.table_registers.proofs.Permits.{every_inside, every_weaker}
use Rattle.table_rules.specs.Rules.{least_to_write, limits_kept, stored, write_rule}
use Rattle.table_rules.specs.Outcomes.{in_table}
use Rattle.table_rules.proofs.WriteStages.{least_two, least_some, items_covered, no_data, no_access, by_items, by_limits}
use Rattle.table_rules.proofs.judge.Goals as goal
use Rattle.table_rules.proofs.judge.Goals.{After-every_byte, Else-not-every_byte, In_ok-judge_items}

pub returns-then-is_empty : goal.returns-then-is_empty
returns-then-is_empty c =
    let a = c.args in
    no_data a.table.now a.address a.bytes.now c.if-table-ne-TABLE_BYTES.false (eqb-true _ _ (sym c.is_empty.ensures ∙ c.if-is_empty.true))

-- the access test, over what torque asks
access : (c : After-every_byte)
    → let a = c.args in
    c.every_byte.result ≡ every_byte (least_to_write a.table.now) a.address (length a.bytes.now)
access c =
    let a = c.args in
    c.every_byte.ensures ∙ ap (λ (l : ℕ). every_byte l a.address (length a.bytes.now)) c.least_to_write.ensures

some_data : (c : After-every_byte) → length c.args.bytes.now ≡ 0 → ⊥
some_data c = eqb-false _ _ (sym c.is_empty.ensures ∙ c.if-is_empty.false)

pub returns-then-not-every_byte : goal.returns-then-not-every_byte
returns-then-not-every_byte c =
    let a = c.args in
    let before = (goal.at.returns-then-not-every_byte c).After-every_byte in
    no_access a.table.now a.address a.bytes.now c.if-table-ne-TABLE_BYTES.false (some_data before) (sym (access before) ∙ c.if-not-every_byte.true)

granted : (c : Else-not-every_byte)
    → let a = c.args in
    every_byte (least_to_write a.table.now) a.address (length a.bytes.now) ≡ true
granted c = sym (access (goal.at.judge_items-requires c).After-every_byte) ∙ c.if-not-every_byte.false

inside : (c : Else-not-every_byte)
    → let a = c.args in
    a.address + length a.bytes.now ≤ length a.table.now
inside c =
    let l = c.if-table-ne-TABLE_BYTES.false in
    let s = some_data (goal.at.judge_items-requires c).After-every_byte in
    let a = c.args in
    let e = every_inside (least_to_write a.table.now) a.address (length a.bytes.now) (least_some a.table.now) (granted c) (omega arith) in
    omega arith

pub judge_items-requires : goal.judge_items-requires
judge_items-requires c =
    let a = c.args in
    let s = some_data (goal.at.judge_items-requires c).After-every_byte in (
      omega arith,
      inside c,
      every_weaker (least_to_write a.table.now) 2 a.address (length a.bytes.now) (least_two a.table.now) (granted c),
    )

pub returns-in_err-judge_items : goal.returns-in_err-judge_items
returns-in_err-judge_items c =
    let a = c.args in
    let p = err_from_is_err_and c.from_residual.result c.from_residual.ensures.1 in
    rw (p.1, p.2)
    (by_items a.table.now a.address a.bytes.now c.if-table-ne-TABLE_BYTES.false
    (some_data (goal.at.returns-in_err-judge_items c).After-every_byte) (granted (goal.at.returns-in_err-judge_items c).Else-not-every_byte) _
    c.in_err-judge_items.ensures)

pub limits_kept-requires : goal.limits_kept-requires
limits_kept-requires c =
    (inside (goal.at.limits_kept-requires c).Else-not-every_byte, c.if-table-ne-TABLE_BYTES.false, items_covered _ _ _ c.in_ok-judge_items.ensures)

-- what the limits decide
limits : (c : In_ok-judge_items)
    → let a = c.args in
    in_table a.table.now (write_rule a.table.now a.address a.bytes.now)
    ≡ cond (limits_kept a.address (length a.bytes.now) (stored a.table.now a.address a.bytes.now)) None (Some 0x06)
limits c =
    let a = c.args in
    let at = goal.at.limits_kept-requires c in
    by_limits a.table.now a.address a.bytes.now c.if-table-ne-TABLE_BYTES.false (some_data at.After-every_byte) (granted at.Else-not-every_byte)
    c.in_ok-judge_items.ensures

pub returns-then-not-limits_kept : goal.returns-then-not-limits_kept
returns-then-not-limits_kept c =
    sym (limits (goal.at.returns-then-not-limits_kept c).In_ok-judge_items ∙ rw (sym c.limits_kept.ensures ∙ c.if-not-limits_kept.true))

pub returns : goal.returns
returns c = sym (limits (goal.at.returns c).In_ok-judge_items ∙ rw (sym c.limits_kept.ensures ∙ c.if-not-limits_kept.false))
