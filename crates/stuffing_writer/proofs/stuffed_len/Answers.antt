use mathlib.Core.Path.{◌≡◌, sym, ap, ◌∙◌}
use mathlib.Core.List.{◌∷◌}
use native.Mathlib.Omega.{arith}
use lib.ListN.{length}
use borrow.Author.Tests.{le-leb, lt-leb}
use Rattle.stuffing.specs.Stuffing.{stuff_after, stuff}
use Rattle.stuffing.proofs.Laws.{length_stuff}
use Rattle.stuffing_writer.proofs.Rounds.{stuff_plain, stuff_marked, stuff_end}
use Rattle.stuffing_writer.proofs.stuffed_len.Goals as goal
use Rattle.stuffing_writer.proofs.stuffed_len.Goals.{then-ends_mark, else-ends_mark}

pub returns-then-most-rest : goal.returns-then-most-rest
returns-then-most-rest c =
    let a = c.args in
    simp (lt-leb (length (stuff (a.first ∷ a.rest.now))) a.most
    (omega (arith, length_stuff (a.first ∷ a.rest.now))))

pub loop-i-init : goal.loop-i-init
unfolding stuff_after
loop-i-init c = (omega arith, omega arith)

pub loop-i-preserved : goal.loop-i-preserved
loop-i-preserved c =
    let h = c.loop-i in
    let a = c.args in
    let t = c.loop-i-test.true in
    let m = c.ends_mark.ensures in
    elim c.if-ends_mark.branch [
      | then-ends_mark w ↦ (omega arith, omega (arith, ap length (stuff_marked a.first a.rest.now h.i (sym m ∙ w.if-ends_mark.true) t)))
      | else-ends_mark w ↦ (omega arith, omega (arith, ap length (stuff_plain a.first a.rest.now h.i (sym m ∙ w.if-ends_mark.false) t)))
    ]

pub returns-then-n-most : goal.returns-then-n-most
returns-then-n-most c =
    let h = c.loop-i in
    let a = c.args in
    let n : length (stuff (a.first ∷ a.rest.now)) ≡ h.n =
    omega (arith, ap length (stuff_end a.first a.rest.now h.i c.loop-i-test.false)) in
    rw (n, le-leb h.n a.most c.if-n-most.true)

pub returns-else-n-most : goal.returns-else-n-most
returns-else-n-most c =
    let h = c.loop-i in
    let a = c.args in
    let n : length (stuff (a.first ∷ a.rest.now)) ≡ h.n =
    omega (arith, ap length (stuff_end a.first a.rest.now h.i c.loop-i-test.false)) in
    rw (n, lt-leb h.n a.most c.if-n-most.false)
