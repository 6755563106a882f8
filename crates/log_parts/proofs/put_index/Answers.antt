use mathlib.Core.Path.{◌≡◌, refl, sym, ◌∙◌}
use Prim.Native.Nat.{◌+◌, ◌*◌, ◌≤◌}
use native.Mathlib.Omega.{arith}
use lib.ListN.{length}
use borrow.Author.Tests.{leb-true}
use Rattle.lists.proofs.Filling.{fill_from, fill_length}
use Rattle.log_layout.specs.Log.{segments_offset}
use Rattle.log_parts.proofs.Numbers.{numbers_end, fill_index, filled_end, put_fits, put_not}
use borrow.Author.Rules.{rules}
use Rattle.log_parts.proofs.put_index.Goals as goal

pub returns-then-not-has_room : goal.returns-then-not-has_room
returns-then-not-has_room c = sym (put_not _ _ _ _ (sym c.has_room.ensures ∙ c.if-not-has_room.true))

pub overflow_mul-offset : goal.overflow_mul-offset
overflow_mul-offset c =
    let a = c.args in
    let h : segments_offset a.segments ≤ length a.out.now =
    leb-true _ _ (sym c.has_room.ensures ∙ c.if-not-has_room.false) in
    search rules

pub overflow_add-offset : goal.overflow_add-offset
overflow_add-offset c =
    let a = c.args in
    let h : segments_offset a.segments ≤ length a.out.now =
    leb-true _ _ (sym c.has_room.ensures ∙ c.if-not-has_room.false) in
    search rules

pub loop-i-init : goal.loop-i-init
loop-i-init c =
    let a = c.args in
    let h : segments_offset a.segments ≤ length a.out.now =
    leb-true _ _ (sym c.has_room.ensures ∙ c.if-not-has_room.false) in
    let p = 16 + 8 * a.segments in
    let e : p + 0 ≡ p = omega arith in
    (refl, h, rw e (fill_from _ _ _ (omega (arith, h))))

pub loop-i-preserved : goal.loop-i-preserved
loop-i-preserved c =
    let l = c.loop-i in
    let a = c.args in
    let n : length a.index ≡ 254 = search rules in
    let f = fill_index _ _ l.out _ a.index (16 + 8 * a.segments) l.i (search rules) l.invariant.2 (omega (arith, l.invariant.1)) c.put_number.ensures in
    (fill_length _ _ _ _ _ f, l.invariant.1, f)

pub returns : goal.returns
returns c =
    let l = c.loop-i in
    let a = c.args in
    let n : length a.index ≡ 254 = search rules in
    filled_end a.out.now _ l.out (16 + 8 * a.segments) _ _ (omega (arith, l.invariant.1)) (numbers_end a.index l.i (search rules)) l.invariant.2
    ∙ sym (put_fits _ _ _ _ l.invariant.1)
