use mathlib.Core.Path.{◌≡◌, refl, sym, ap, ◌∙◌}
use Rattle.std.specs.Prelude.{Some}
use Rattle.table_registers.specs.Rows.{row_at}
use Prim.Native.Nat.{ℕ, ◌+◌, ◌-◌, ◌≤◌, ◌<◌}
use native.Mathlib.Omega.{arith}
use borrow.Author.Rules.{rules}
use denote.Enum.Declared.{tag_of}
use Rattle.table_registers.specs.contracts.Access.{the_type}
use Rattle.table_registers.specs.declared.Access.{Access}
use Rattle.table_registers.specs.declared.Access.TheVariants.{Read, RomWrite, RamWrite}
use Rattle.table_registers.specs.Registers.{table_size, end_of, permits, every_byte}
use Rattle.table_registers.proofs.Rows.{nth, place, number_of, found_permits, found_end, found_after, found_inside, none_permits}
use Rattle.table_registers.proofs.Permits.{every_made, every_fails, run_ends, run_goes_on}
use Rattle.table_registers.proofs.every_byte.Goals as goal
use Rattle.table_registers.proofs.every_byte.Goals.{Else-row-least}

pub returns-then-least-eq0 : goal.returns-then-least-eq0
returns-then-least-eq0 c =
    let a = c.args in
    sym (ap (λ (l : ℕ). every_byte l a.address a.n) c.if-least-eq0.true ∙ every_made 0 a.address a.n (λ k h. omega arith))

-- no register has the byte
pub returns-in_default : goal.returns-in_default
returns-in_default c =
    let h = c.loop-left in
    let p = none_permits h.a (sym c.in_default.is ∙ c.register_at.ensures) in
    let l = c.if-least-eq0.false in
    sym (sym h.invariant ∙ every_fails _ h.a h.left (omega arith) (omega arith))

-- the number of a variant
tag_is : (p : Access) → tag_of the_type p + 1 ≡ number_of p
tag_is Read = refl
tag_is RomWrite = refl
tag_is RamWrite = refl

pub returns-then-row-least : goal.returns-then-row-least
returns-then-row-least c =
    let h = c.loop-left in
    let p = found_permits _ h.a (sym c.in-Some.is ∙ c.register_at.ensures) in
    let t = tag_is c.in-Some.row.permits in
    sym (sym h.invariant ∙ every_fails _ h.a h.left (omega arith) (omega arith))

-- the register that was found
found : (c : Else-row-least) → Some c.in-Some.row ≡ row_at c.loop-left.a
found c = sym c.in-Some.is ∙ c.register_at.ensures

-- something is asked
asked : (c : Else-row-least) → 1 ≤ c.args.least
asked c = let h = c.if-least-eq0.false in omega arith

-- the register permits enough
granted : (c : Else-row-least)
    → c.args.least ≤ permits c.loop-left.a
granted c =
    let p = found_permits _ c.loop-left.a (found c) in
    let t = tag_is c.in-Some.row.permits in
    omega arith

-- and the run goes up to its end
bounds : (c : Else-row-least)
    → let row = c.in-Some.row in
    (c.loop-left.a < row.start + row.bytes) × (row.start + row.bytes ≤ table_size)
bounds c =
    let p = granted c in (
      found_after _ c.loop-left.a (found c) (omega arith),
      found_inside _ c.loop-left.a (found c) (omega arith),
    )

run_end : (c : Else-row-least)
    → let row = c.in-Some.row in
    let a = c.loop-left.a in
    a + (row.start + row.bytes - a) ≡ end_of (nth (place a))
run_end c =
    let p = granted c in
    let b = bounds c in
    let e = found_end _ c.loop-left.a (found c) (omega arith) in
    omega arith

pub overflow_add-run : goal.overflow_add-run
overflow_add-run c = let b = bounds (goal.at.overflow_add-run c).Else-row-least in omega arith

pub overflow_sub-run : goal.overflow_sub-run
overflow_sub-run c = let b = bounds (goal.at.overflow_sub-run c).Else-row-least in omega arith

pub returns-then-left-run : goal.returns-then-left-run
returns-then-left-run c = sym (sym c.loop-left.invariant ∙ run_ends _ _ _ _ (asked (goal.at.returns-then-left-run c).Else-row-least) (granted (goal.at.returns-then-left-run c).Else-row-least) (run_end (goal.at.returns-then-left-run c).Else-row-least) c.if-left-run.true)

pub overflow_add-a : goal.overflow_add-a
overflow_add-a c = let b = bounds (goal.at.overflow_add-a c).Else-row-least in omega arith

pub loop-left-smaller : goal.loop-left-smaller
loop-left-smaller c = let b = bounds (goal.at.loop-left-smaller c).Else-row-least in omega arith

pub loop-left-preserved : goal.loop-left-preserved
loop-left-preserved c = run_goes_on _ _ _ _ (asked (goal.at.loop-left-preserved c).Else-row-least) (granted (goal.at.loop-left-preserved c).Else-row-least) (run_end (goal.at.loop-left-preserved c).Else-row-least) (search rules) ∙ c.loop-left.invariant

pub returns : goal.returns
unfolding every_byte
returns c =
    let e : c.loop-left.left ≡ 0 = omega arith in
    rw e at c.loop-left.invariant
