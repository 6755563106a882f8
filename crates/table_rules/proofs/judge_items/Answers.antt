use mathlib.Core.Path.{◌≡◌, refl, sym, ap, ◌∙◌}
use mathlib.Core.Bool.{Bool, true, ◌&&◌, and-true}
use mathlib.Core.Logic.{inl, inr, ⊎_elim}
use Prim.Native.Nat.{◌+◌, ◌-◌, ◌≤◌}
use native.Mathlib.Omega.{arith}
use lib.Dec.{leb}
use lib.IntN.{ℤ}
use lib.ListN.{length}
use lib.Signed.{le_z}
use borrow.Author.Rules.{rules}
use borrow.Author.Tests.{leb-true}
use Rattle.lists.proofs.Bools.{and_left, and_right}
use Rattle.table_registers.specs.Registers.{Register, Access, read_only, read_write, Area, registers, end_of, grant, permits}
use Rattle.table_registers.specs.Rows.{lowest, highest, row_of, one_or_four}
use Rattle.table_registers.specs.declared.Row.{Row}
use Rattle.table_registers.proofs.Rows.{nth, place, place_inside, own_grant, ends, found_row, found_inside, none_permits, nth_bytes}
use Rattle.table_registers.proofs.Permits.{every_at}
use Rattle.table_items.specs.Items.{value_at, in_range, value_in_range}
use Rattle.table_rules.specs.Rules.{stored, covers, every_touched}
use Rattle.table_rules.specs.Stages.{items_rule}
use Rattle.table_rules.proofs.Walks.{border_done, border, walk_failed, walk_passed, walk_next}
use Rattle.table_rules.proofs.Stored.{value_at_lem}
use Rattle.table_rules.proofs.judge_items.Goals as goal
use Rattle.table_rules.proofs.judge_items.Goals.{After-covers, After-in_range-good, After-loop-a, Else-not-covers, In-loop-a}

pub loop-a-init : goal.loop-a-init
loop-a-init c =
    let a = c.args in
    let e : a.address + length a.bytes.now - a.address ≡ length a.bytes.now = omega arith in
    (search rules, search rules, inl refl, rw e, rw e)

-- each byte of the run can be written
can_be_written : (c : In-loop-a) → 2 ≤ permits c.loop-a.a
can_be_written c =
    let h = c.loop-a in
    let e : c.args.address + (h.a - c.args.address) ≡ h.a = omega arith in
    rw e at (every_at 2 c.args.address _ (h.a - c.args.address) c.requires.2 (omega arith))

-- so that it has a register
pub unreachable-requires : goal.unreachable-requires
unreachable-requires c =
    let w = can_be_written (goal.at.unreachable-requires c).In-loop-a in
    let p = none_permits c.loop-a.a (sym c.in_default.is ∙ c.register_at.ensures) in
    absurd (omega arith)

-- a register that can be written has a range
row_range : (access : Access) (area : Area) (value : ℤ) → 2 ≤ grant access area
    → (le_z (lowest access) value && le_z value (highest access)) ≡ in_range access value
row_range read_only area value h = absurd (omega arith)
row_range (read_write low high) area value h = refl

-- what the calls answer of the register of this round
covers_is : (c : After-covers) → 2 ≤ permits c.loop-a.a
    → let a = c.args in
    c.covers.result ≡ covers a.address (length a.bytes.now) (nth (place c.loop-a.a))
covers_is c w =
    let a = c.args in
    c.covers.ensures
    ∙ ap (λ (r : Row). leb a.address r.start && leb (r.start + r.bytes) (a.address + length a.bytes.now))
    (found_row _ c.loop-a.a (sym c.in-Some.is ∙ c.register_at.ensures) (omega arith))

pub overflow_add-item : goal.overflow_add-item
overflow_add-item c =
    let w = can_be_written (goal.at.overflow_add-item c).In-loop-a in
    let n = found_inside _ c.loop-a.a (sym c.in-Some.is ∙ c.register_at.ensures) (omega arith) in
    omega arith

pub returns-then-not-covers : goal.returns-then-not-covers
unfolding items_rule
returns-then-not-covers c =
    let w = can_be_written (goal.at.returns-then-not-covers c).In-loop-a in
    let bad =
    walk_failed c.loop-a.a (omega arith) (covers _ _) _ c.loop-a-test.true (sym (covers_is (goal.at.returns-then-not-covers c).After-covers w) ∙ c.if-not-covers.true) in
    rw (sym c.loop-a.invariant.3 ∙ bad)

-- the register is covers
bounds : (c : Else-not-covers) → covers c.args.address (length c.args.bytes.now) (nth (place c.loop-a.a)) ≡ true
    → let a = c.args in
    let own = nth (place c.loop-a.a) in
    (a.address ≤ own.address) × (end_of own ≤ a.address + length a.bytes.now)
bounds c e =
    let a = c.args in
    let own = nth (place c.loop-a.a) in (
      leb-true a.address own.address (and_left (leb a.address own.address) (leb (end_of own) (a.address + length a.bytes.now)) e),
      leb-true (end_of own) (a.address + length a.bytes.now) (and_right (leb a.address own.address) (leb (end_of own) (a.address + length a.bytes.now)) e),
    )

-- the row that was found
row_of_lem : (c : Else-not-covers) → 2 ≤ permits c.loop-a.a
    → c.in-Some.row ≡ row_of (nth (place c.loop-a.a))
row_of_lem c w =
    found_row _ c.loop-a.a (sym c.in-Some.is ∙ c.register_at.ensures) (omega arith)

pub in_range-good-requires : goal.in_range-good-requires
in_range-good-requires c =
    let a = c.loop-a.a in
    let w = can_be_written (goal.at.in_range-good-requires c).In-loop-a in
    let e = sym (covers_is (goal.at.in_range-good-requires c).After-covers w) ∙ c.if-not-covers.false in
    let g = own_grant a (omega arith) in
    let b = bounds (goal.at.in_range-good-requires c).Else-not-covers e in
    let s = ap (λ (r : Row). r.start) (row_of_lem (goal.at.in_range-good-requires c).Else-not-covers w) in
    let n = ap (λ (r : Row). r.bytes) (row_of_lem (goal.at.in_range-good-requires c).Else-not-covers w) in
    (omega arith, ap one_or_four n ∙ nth_bytes (place a) (place_inside a (omega arith)) (omega arith))

in_range_is : (c : After-in_range-good) → 2 ≤ permits c.loop-a.a
    → (let a = c.args in let own = nth (place c.loop-a.a) in (a.address ≤ own.address) × (end_of own ≤ a.address + length a.bytes.now))
    → c.in-Some.row ≡ row_of (nth (place c.loop-a.a))
    → let a = c.args in
    c.in_range-good.result
    ≡ value_in_range (stored a.table.now a.address a.bytes.now) (nth (place c.loop-a.a))
in_range_is c w b row =
    let bytes = c.args.bytes.now in
    let address = c.args.address in
    let a = c.loop-a.a in
    let own = nth (place a) in
    let g = own_grant a (omega arith) in
    let e : address + (own.address - address) ≡ own.address = omega arith in
    let v = rw e at (value_at_lem c.args.table.now address bytes c.requires.1 (own.address - address) own.bytes (omega arith)) in
    c.in_range-good.ensures
    ∙ ap (λ (r : Row). le_z r.low (value_at bytes (r.start - address) r.bytes) && le_z (value_at bytes (r.start - address) r.bytes) r.high) row
    ∙ ap (λ (z : ℤ). le_z (lowest own.access) z && le_z z (highest own.access)) (sym v)
    ∙ row_range own.access own.area _ (omega arith)

-- the next round begins at the register's end
next : (c : Else-not-covers) → 2 ≤ permits c.loop-a.a
    → let row = c.in-Some.row in
    row.start + row.bytes ≡ end_of (nth (place c.loop-a.a))
next c w = ap (λ (r : Row). r.start + r.bytes) (row_of_lem c w)

pub loop-a-smaller : goal.loop-a-smaller
loop-a-smaller c =
    let w = can_be_written (goal.at.loop-a-smaller c).In-loop-a in
    let e = next (goal.at.loop-a-smaller c).Else-not-covers w in
    let n = ends c.loop-a.a (omega arith) in
    omega arith

pub loop-a-preserved : goal.loop-a-preserved
loop-a-preserved c =
    let h = c.loop-a in
    let w = can_be_written (goal.at.loop-a-preserved c).In-loop-a in
    let e = sym (covers_is (goal.at.loop-a-preserved c).After-covers w) ∙ c.if-not-covers.false in
    let b = bounds (goal.at.loop-a-preserved c).Else-not-covers e in
    let row = row_of_lem (goal.at.loop-a-preserved c).Else-not-covers w in
    let n = ends h.a (omega arith) in
    rw (next (goal.at.loop-a-preserved c).Else-not-covers w) (
      omega arith,
      b.1,
      inr (border h.a (omega arith)),
      walk_passed h.a (omega arith) (covers _ _) _ c.loop-a-test.true e b.1 ∙ h.invariant.3,
      walk_next h.a (omega arith) (value_in_range _) _ c.loop-a-test.true _ h.good
          (in_range_is (goal.at.loop-a-preserved c).After-in_range-good w b row) b.1
          ∙ h.invariant.4,
    )

-- what the loop leaves
ended : (c : After-loop-a) (test : Register → Bool)
    → let a = c.args in
    every_touched c.loop-a.a (a.address + length a.bytes.now - c.loop-a.a) test registers ≡ true
ended c test =
    let h = c.loop-a in
    let a = c.args in
    let e : a.address + length a.bytes.now - h.a ≡ 0 = omega arith in
    rw e (⊎_elim (λ same. absurd (omega arith)) (border_done test h.a) h.invariant.2)

all_ranged : (c : After-loop-a)
    → let a = c.args in
    every_touched a.address (length a.bytes.now) (value_in_range (stored a.table.now a.address a.bytes.now)) registers ≡ c.loop-a.good
all_ranged c =
    let h = c.loop-a in
    sym h.invariant.4 ∙ ap (λ (t : Bool). h.good && t) (ended c (value_in_range _)) ∙ and-true h.good

pub returns-then-good : goal.returns-then-good
unfolding items_rule
returns-then-good c = rw (sym c.loop-a.invariant.3 ∙ ended (goal.at.returns-then-good c).After-loop-a (covers _ _), all_ranged (goal.at.returns-then-good c).After-loop-a ∙ c.if-good.true)

pub returns-else-good : goal.returns-else-good
unfolding items_rule
returns-else-good c = rw (sym c.loop-a.invariant.3 ∙ ended (goal.at.returns-else-good c).After-loop-a (covers _ _), all_ranged (goal.at.returns-else-good c).After-loop-a ∙ c.if-good.false)
