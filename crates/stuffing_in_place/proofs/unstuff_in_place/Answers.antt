use mathlib.Core.Path.{◌≡◌, refl, sym, ap, ◌∙◌}
use mathlib.Core.Bool.{true}
use Prim.Native.Nat.{ℕ, ◌+◌}
use native.Mathlib.Omega.{arith}
use lib.Dec.{eqb}
use lib.ListN.{length, get_or, set}
use borrow.Author.Rules.{rules}
use Rattle.stuffing.specs.Stuffing.{mark}
use Rattle.stuffing.proofs.Mark.{mark_last, no_mark}
use Rattle.stuffing_in_place.proofs.Within.{Within, starts, same_length as within_same_length, kept, skipped, forgotten, left_count, left_bytes}
use Rattle.stuffing_in_place.proofs.unstuff_in_place.Goals as goal
use Rattle.stuffing_in_place.proofs.unstuff_in_place.Goals.{After-is_mark}

pub loop-i-init : goal.loop-i-init
loop-i-init c = starts _ _ c.first_read-start.ensures

pub bounds-body-j : goal.bounds-body-j
bounds-body-j c =
    let h = c.loop-i in
    let k = h.invariant.back in
    omega (arith, c.loop-i-test.true)

pub overflow_add-j : goal.overflow_add-j
overflow_add-j c =
    let h = c.loop-i in
    let k = h.invariant.back in
    search rules

-- a byte is read and written
module _ (k : After-is_mark) where
  abbrev byte : ℕ
  byte = get_or k.loop-i.body k.loop-i.i 0

  written : Within k.args.body.now (set k.loop-i.body k.loop-i.j byte) k.loop-i.a k.loop-i.b byte (k.loop-i.j + 1) (k.loop-i.i + 1)
  written = kept k.args.body.now k.loop-i.body 0 k.loop-i.a k.loop-i.b k.loop-i.j k.loop-i.i k.loop-i.invariant k.loop-i-test.true refl

  length_is : length (set k.loop-i.body k.loop-i.j byte) ≡ length k.args.body.now
  length_is = within_same_length _ _ _ _ _ _ _ written

pub shape_of-body-then-body-i : goal.shape_of-body-then-body-i
shape_of-body-then-body-i c = length_is (goal.at.shape_of-body-then-body-i c).After-is_mark

pub returns-then-body-i : goal.returns-then-body-i
returns-then-body-i c =
    record {
      value = left_count _ _ _ _ _ _ _ (written (goal.at.returns-then-body-i c).After-is_mark) c.if-body-i.true;
      body_after = left_bytes _ _ _ _ _ _ _ (written (goal.at.returns-then-body-i c).After-is_mark) c.if-body-i.true;
    }

pub loop-i-smaller-then-is_mark : goal.loop-i-smaller-then-is_mark
loop-i-smaller-then-is_mark c = omega (arith, c.loop-i-test.true, within_same_length _ _ _ _ _ _ _ c.loop-i.invariant)

pub loop-i-preserved-then-is_mark : goal.loop-i-preserved-then-is_mark
loop-i-preserved-then-is_mark c =
    let m : mark c.loop-i.a c.loop-i.b (byte (goal.at.loop-i-preserved-then-is_mark c).After-is_mark) ≡ true = sym c.is_mark.ensures ∙ c.if-is_mark.true in
    let w = skipped _ _ _ _ _ _ _ (written (goal.at.loop-i-preserved-then-is_mark c).After-is_mark) c.if-body-i.false m in
    let next = get_or (set c.loop-i.body c.loop-i.j (byte (goal.at.loop-i-preserved-then-is_mark c).After-is_mark)) (c.loop-i.i + 1) 0 in
    forgotten _ _ _ _ _ _ _ w (no_mark c.loop-i.b (byte (goal.at.loop-i-preserved-then-is_mark c).After-is_mark) next (ap (λ (x : ℕ). eqb x 0xFF) (mark_last c.loop-i.a c.loop-i.b (byte (goal.at.loop-i-preserved-then-is_mark c).After-is_mark) m)))

pub loop-i-smaller : goal.loop-i-smaller
loop-i-smaller c = omega (arith, c.loop-i-test.true, within_same_length _ _ _ _ _ _ _ c.loop-i.invariant)

pub loop-i-preserved : goal.loop-i-preserved
loop-i-preserved c = forgotten _ _ _ _ _ _ _ (written (goal.at.loop-i-preserved c).After-is_mark) (sym c.is_mark.ensures ∙ c.if-is_mark.false)

pub shape_of-body : goal.shape_of-body
shape_of-body c = within_same_length _ _ _ _ _ _ _ c.loop-i.invariant

pub returns : goal.returns
returns c =
    let h = c.loop-i in
    record {
      value = left_count _ _ _ _ _ _ _ h.invariant c.loop-i-test.false;
      body_after = left_bytes _ _ _ _ _ _ _ h.invariant c.loop-i-test.false;
    }
