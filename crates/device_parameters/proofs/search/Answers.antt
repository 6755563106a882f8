use Rattle.std.specs.Prelude.{◌≡◌, Bool, true, false, None, Some, not, cond, eqb}
use Rattle.std.specs.Bool.{then_some}
use Rattle.device_parameters.specs.declared.OwnEntry.{OwnEntry}
use mathlib.Core.Path.{refl, ◌∙◌}
use native.Mathlib.Omega.{arith}
use lib.ListN.{drop, get_or}
use borrow.Author.Rules.{rules}
use Rattle.device_parameters.specs.Parameters.{entry_of}
use Rattle.device_parameters.proofs.Searching.{none_found, searched, not_good, allowed, fits_here, size_is, not_whole, no_id, again, some_bytes, own_next, other_next}
use Rattle.device_parameters.proofs.search.Goals as goal
use Rattle.device_parameters.proofs.search.Goals.{then-marks-k-ne0+else-marks-k-eq-PASSED, else-marks-k-ne0}

pub loop-at-init : goal.loop-at-init
loop-at-init c =
    let a = c.args in
    none_found (entry_of a.kind) a.own a.params.now a.from (omega arith)

pub returns-in_err-size : goal.returns-in_err-size
returns-in_err-size c =
    let h = c.loop-at in
    let a = c.args in
    c.from_residual.ensures
    ∙ not_whole (entry_of a.kind) a.own a.params.now a.from h.marks h.at h.slot _ h.invariant c.loop-at-test.true (not_good a.kind a.params.now h.at c.entry_size.result (omega arith) c.entry_size.ensures c.in_err-size.was)

pub returns-then-id-gt-MAX_ID : goal.returns-then-id-gt-MAX_ID
returns-then-id-gt-MAX_ID c =
    let h = c.loop-at in
    let a = c.args in
    let ok = allowed a.kind a.params.now h.at c.entry_size.result (omega arith) c.entry_size.ensures c.in_ok-size.size c.in_ok-size.was in
    let whole = fits_here a.kind a.params.now h.at c.entry_size.result (omega arith) c.entry_size.ensures c.in_ok-size.size c.in_ok-size.was in
    no_id (entry_of a.kind) a.own a.params.now a.from h.marks h.at h.slot _ h.invariant c.loop-at-test.true ok whole c.if-id-gt-MAX_ID.true

pub returns-then-marks-k-eq-PASSED : goal.returns-then-marks-k-eq-PASSED
returns-then-marks-k-eq-PASSED c =
    let h = c.loop-at in
    let a = c.args in
    let ok = allowed a.kind a.params.now h.at c.entry_size.result (omega arith) c.entry_size.ensures c.in_ok-size.size c.in_ok-size.was in
    let whole = fits_here a.kind a.params.now h.at c.entry_size.result (omega arith) c.entry_size.ensures c.in_ok-size.size c.in_ok-size.was in
    again (entry_of a.kind) a.own a.params.now a.from h.marks h.at h.slot _ h.invariant c.loop-at-test.true ok whole c.if-id-gt-MAX_ID.false c.if-marks-k-eq-PASSED.true

pub overflow_add-at : goal.overflow_add-at
overflow_add-at c =
    let h = c.loop-at in
    let a = c.args in
    let whole = fits_here a.kind a.params.now h.at c.entry_size.result (omega arith) c.entry_size.ensures c.in_ok-size.size c.in_ok-size.was in
    let size = size_is a.kind a.params.now h.at c.entry_size.result (omega arith) c.entry_size.ensures c.in_ok-size.size c.in_ok-size.was in
    search rules

pub loop-at-preserved : goal.loop-at-preserved
loop-at-preserved c =
    let h = c.loop-at in
    let a = c.args in
    let ok = allowed a.kind a.params.now h.at c.entry_size.result (omega arith) c.entry_size.ensures c.in_ok-size.size c.in_ok-size.was in
    let whole = fits_here a.kind a.params.now h.at c.entry_size.result (omega arith) c.entry_size.ensures c.in_ok-size.size c.in_ok-size.was in
    let size = size_is a.kind a.params.now h.at c.entry_size.result (omega arith) c.entry_size.ensures c.in_ok-size.size c.in_ok-size.was in
    let known = c.if-id-gt-MAX_ID.false in
    rw size (elim c.if-marks-k-ne0.branch [
      | then-marks-k-ne0+else-marks-k-eq-PASSED w ↦
          rw w.found-is
          (own_next (entry_of a.kind) a.own a.params.now a.from h.marks h.at h.slot _ h.invariant c.loop-at-test.true ok whole known w.if-marks-k-eq-PASSED.false (some_bytes a.kind (drop h.at a.params.now)) w.if-marks-k-ne0.true)
      | else-marks-k-ne0 w ↦
          rw w.found-is
          (other_next (entry_of a.kind) a.own a.params.now a.from h.marks h.at h.slot _ h.invariant c.loop-at-test.true ok whole known (λ o. absurd (omega (arith, w.if-marks-k-ne0.false))) (some_bytes a.kind (drop h.at a.params.now)) w.if-marks-k-ne0.false h.found.slot h.found.offset refl)
    ])

by_mark : (b : Bool) (x : OwnEntry) → then_some (not b) x ≡ cond b None (Some x)
by_mark true x = refl
by_mark false x = refl

pub returns : goal.returns
returns c =
    let h = c.loop-at in
    let a = c.args in
    c.then_some.ensures ∙ by_mark (eqb (get_or h.marks a.own 0) 2) h.found ∙ searched (entry_of a.kind) a.own a.params.now a.from h.marks h.at h.slot _ h.invariant c.loop-at-test.false
