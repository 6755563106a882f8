use mathlib.Core.Path.{◌≡◌, sym, ap, ◌∙◌}
use mathlib.Core.Bool.{true, false, not}
use native.Mathlib.Omega.{arith}
use lib.ListN.{length}
use Rattle.stuffing.specs.Stuffing.{well_stuffed, unstuff}
use Rattle.stuffing.proofs.Rounds.{marked_next, well_end, unstuff_end, well_kept, unstuff_kept}
use Rattle.stuffing.proofs.Rounds.{free_after, mark_at_end, mark_unstuffed, well_skipped, unstuff_skipped}
use Rattle.stuffing.proofs.Plain.{begun}
use Rattle.stuffing.proofs.check.Goals as goal
use Rattle.stuffing.proofs.check.Goals.{then-ends_mark+else-body-i+else-body-i-2, else-ends_mark}

pub loop-i-init : goal.loop-i-init
loop-i-init c =
    let f = c.before_fd-plain.ensures in
    let b = begun c.args.body.now _ f.1 f.0 in
    (f.0, omega arith, b.0, b.1, b.2)

pub returns-then-body-i : goal.returns-then-body-i
returns-then-body-i c =
    let s = c.args.body.now in
    let h = c.loop-i in
    let bad : well_stuffed s ≡ false =
    sym h.invariant.3
    ∙ mark_at_end s h.i h.invariant.2 c.loop-i-test.true
    (sym c.ends_mark.ensures ∙ c.if-ends_mark.true) c.if-body-i.true in
    rw bad

pub returns-then-body-i-2 : goal.returns-then-body-i-2
returns-then-body-i-2 c =
    let s = c.args.body.now in
    let h = c.loop-i in
    let bad : well_stuffed s ≡ false =
    sym h.invariant.3
    ∙ mark_unstuffed s h.i h.invariant.2 c.loop-i-test.true
    (sym c.ends_mark.ensures ∙ c.if-ends_mark.true) c.if-body-i.false c.if-body-i-2.true in
    rw bad

pub loop-i-preserved : goal.loop-i-preserved
loop-i-preserved c =
    let s = c.args.body.now in
    let h = c.loop-i in
    let t = c.loop-i-test.true in
    let m = c.ends_mark.ensures in
    elim c.if-ends_mark.branch [
      | then-ends_mark+else-body-i+else-body-i-2 w ↦
          let e = sym m ∙ w.if-ends_mark.true in
          let next = w.if-body-i.false in
          rw w.i-is (
            omega (arith, next),
            omega (arith, h.invariant.1),
            free_after s h.i h.invariant.2 t e,
            well_skipped s h.i h.invariant.2 t e next w.if-body-i-2.false ∙ h.invariant.3,
            omega (arith, ap length (unstuff_skipped s h.i h.invariant.2 t e next), h.invariant.4),
          )
      | else-ends_mark w ↦
          rw w.i-is (
            omega (arith, t),
            omega (arith, h.invariant.1),
            marked_next s h.i ∙ sym m ∙ w.if-ends_mark.false,
            well_kept s h.i h.invariant.2 t ∙ h.invariant.3,
            omega (arith, ap length (unstuff_kept s h.i h.invariant.2 t), h.invariant.4),
          )
    ]

pub returns : goal.returns
returns c =
    let h = c.loop-i in
    let s = c.args.body.now in
    let good : well_stuffed s ≡ true = sym h.invariant.3 ∙ well_end s h.i c.loop-i-test.false ∙ ap not h.invariant.2 in
    let n : h.n ≡ length (unstuff s) = omega (arith, ap length (unstuff_end s h.i c.loop-i-test.false), h.invariant.4) in
    rw (good, n)
