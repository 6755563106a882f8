use mathlib.Core.Path.{◌≡◌, refl, sym, ◌∙◌}
use mathlib.Core.Bool.{true}
use Prim.Native.Nat.{◌+◌, ◌<◌}
use native.Mathlib.Omega.{arith}
use lib.ListN.{length, get_or}
use Rattle.lists.proofs.Filling.{fill_start, fill_next, fill_done, fill_length, drop_lt}
use Rattle.stuffing.specs.Stuffing.{unstuff}
use Rattle.stuffing.proofs.Rounds.{marked_next, unstuff_end, well_kept, unstuff_kept}
use Rattle.stuffing.proofs.Rounds.{free_after, well_next, well_skipped, unstuff_skipped}
use borrow.Author.Rules.{rules}
use Rattle.stuffing.proofs.write_unstuffed.Goals as goal
use Rattle.stuffing.proofs.write_unstuffed.Goals.{then-ends_mark, else-ends_mark}
use Rattle.stuffing.proofs.write_unstuffed.Goals.{After-row_known-1, After-shared_slice_known-in-loop-i-1}

pub loop-i-init : goal.loop-i-init
loop-i-init c = (search rules, refl, c.requires.0, fill_start _ _)

-- there is room for the byte at i
room : (c : After-shared_slice_known-in-loop-i-1)
    → c.loop-i.j < length c.args.out.now
room c =
    let h = c.loop-i in
    let k = rw (unstuff_kept c.args.body.now h.i h.invariant.1 c.loop-i-test.true) at h.invariant.3 in
    omega (arith, drop_lt (unstuff c.args.body.now) h.j _ _ k.rest, c.requires.1)

pub bounds-out-j : goal.bounds-out-j
bounds-out-j c = omega (arith, room c, fill_length _ _ _ _ _ c.loop-i.invariant.3)

pub overflow_add-j : goal.overflow_add-j
overflow_add-j c = omega (arith, room c)

-- where a mark ends, its FD follows
next : (c : After-row_known-1) → c.ends_mark.result ≡ true
    → let h = c.loop-i in
    let s = c.args.body.now in
    (h.i + 1 < length s) × (get_or s (h.i + 1) 0 ≡ 0xFD)
next c e =
    let h = c.loop-i in
    well_next c.args.body.now h.i h.invariant.1 c.loop-i-test.true
    (sym c.ends_mark.ensures ∙ e) h.invariant.2

pub loop-i-preserved : goal.loop-i-preserved
loop-i-preserved c =
    let h = c.loop-i in
    let s = c.args.body.now in
    let t = c.loop-i-test.true in
    let m = c.ends_mark.ensures in
    let r = room (goal.at.loop-i-preserved c).After-shared_slice_known-in-loop-i-1 in
    elim c.if-ends_mark.branch [
      | then-ends_mark w ↦
          let e = sym m ∙ w.if-ends_mark.true in
          let n = next c w.if-ends_mark.true in
          rw w.i-is (
            omega (arith, n.0),
            free_after s h.i h.invariant.1 t e,
            well_skipped s h.i h.invariant.1 t e n.0 n.1 ∙ h.invariant.2,
            fill_next (unstuff s) _ _ h.j _ _ (rw (unstuff_skipped s h.i h.invariant.1 t e n.0) at h.invariant.3) r,
          )
      | else-ends_mark w ↦
          rw w.i-is (
            omega (arith, t),
            marked_next s h.i ∙ sym m ∙ w.if-ends_mark.false,
            well_kept s h.i h.invariant.1 t ∙ h.invariant.2,
            fill_next (unstuff s) _ _ h.j _ _ (rw (unstuff_kept s h.i h.invariant.1 t) at h.invariant.3) r,
          )
    ]

pub shape_of-out : goal.shape_of-out
shape_of-out c = fill_length _ _ _ _ _ c.loop-i.invariant.3

pub returns : goal.returns
returns c =
    let h = c.loop-i in
    fill_done _ _ _ h.j (rw (unstuff_end c.args.body.now h.i c.loop-i-test.false) at h.invariant.3)
