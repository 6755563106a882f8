use mathlib.Core.Path.{◌≡◌, ap, ◌∙◌}
use mathlib.Core.Bool.{true, false}
use Prim.Native.Nat.{ℕ, ◌+◌, ◌≤◌}
use native.Mathlib.Omega.{arith}
use lib.IntN.{ℤ, pos}
use lib.ListN.{get_or, set}
use mir.Syntax.{w32}
use mir.Val.{to_z, of_z}
use mir.Facts.{to_z-of_z}
use borrow.Author.Rules.{sfits_of}
use Rattle.lists.specs.Numbers.{number_at}
use Rattle.plan_check.specs.Checking.{fits}
use Rattle.plan_check.proofs.Marks.{Marking, marking_start, whole, known, marking_new, marking_other, marking_end}
use Rattle.plan_check.proofs.mark_list.Goals as goal
use Rattle.plan_check.proofs.mark_list.Goals.{After-entry_fits, In-loop-at}

pub loop-at-init : goal.loop-at-init
loop-at-init c = marking_start c.args.goals.now c.args.params.now c.args.stood.now c.requires.2 c.requires.1

-- the ID of the entry
module _ (c : In-loop-at) where
  id_known : get_or c.args.params.now c.loop-at.at 0 ≤ 252
  id_known =
      known c.args.goals.now c.args.params.now c.args.stood.now c.requires.2 c.loop-at.stood c.loop-at.at c.loop-at.invariant c.loop-at-test.true

pub bounds-goals-id : goal.bounds-goals-id
bounds-goals-id c = omega (arith, id_known (goal.at.bounds-goals-id c).In-loop-at, c.requires.0)

pub bounds-stood-id : goal.bounds-stood-id
bounds-stood-id c = omega (arith, id_known (goal.at.bounds-stood-id c).In-loop-at, c.loop-at.invariant.long)

pub entry_fits-requires : goal.entry_fits-requires
entry_fits-requires c = whole c.args.goals.now c.args.params.now c.args.stood.now c.requires.2 c.loop-at.stood c.loop-at.at c.loop-at.invariant c.loop-at-test.true

-- what the test has said of it
module _ (c : After-entry_fits) where
  abbrev id : ℕ
  id = get_or c.args.params.now c.loop-at.at 0

  held : let v = get_or c.args.goals.now id (pos 0) in to_z w32 (of_z w32 v) ≡ v
  held = to_z-of_z {w = w32} (sfits_of c.entry_fits-arg-1.given)

  stated : let a = c.args in
      c.entry_fits.result ≡ fits (get_or a.goals.now id (pos 0)) (get_or c.loop-at.stood id false) (number_at a.params.now (c.loop-at.at + 1) 4)
  stated =
      let a = c.args in
      c.entry_fits.ensures ∙ ap (λ (g : ℤ). fits g (get_or c.loop-at.stood id false) (number_at a.params.now (c.loop-at.at + 1) 4)) held

pub returns-then-not-entry_fits : goal.returns-then-not-entry_fits
returns-then-not-entry_fits c =
    marking_other c.args.goals.now c.args.params.now c.args.stood.now c.requires.2 c.loop-at.stood c.loop-at.at c.loop-at.invariant
    c.loop-at-test.true c.requires.0 c.entry_fits.result (stated (goal.at.returns-then-not-entry_fits c).After-entry_fits) c.if-not-entry_fits.true

pub bounds-stood-id-in-loop-at : goal.bounds-stood-id-in-loop-at
bounds-stood-id-in-loop-at c = omega (arith, id_known (goal.at.bounds-stood-id-in-loop-at c).In-loop-at, c.loop-at.invariant.long)

-- the IDs so far, and this one
marked : (c : After-entry_fits) → c.entry_fits.result ≡ true → Marking c.args.goals.now c.args.params.now c.args.stood.now (set c.loop-at.stood (get_or c.args.params.now c.loop-at.at 0) true) (c.loop-at.at + 5)
marked c passed =
    marking_new c.args.goals.now c.args.params.now c.args.stood.now c.requires.2 c.loop-at.stood c.loop-at.at c.loop-at.invariant
    c.loop-at-test.true c.requires.0 c.entry_fits.result (stated c) passed

pub loop-at-preserved : goal.loop-at-preserved
loop-at-preserved c = marked (goal.at.loop-at-preserved c).After-entry_fits c.if-not-entry_fits.false

pub returns : goal.returns
returns c = marking_end c.args.goals.now c.args.params.now c.args.stood.now c.requires.2 c.loop-at.stood c.loop-at.at c.loop-at.invariant c.loop-at-test.false

pub returns-else-not-entry_fits : goal.returns-else-not-entry_fits
returns-else-not-entry_fits c =
    marking_end c.args.goals.now c.args.params.now c.args.stood.now c.requires.2 _ (c.loop-at.at + 5)
    (marked (goal.at.returns-else-not-entry_fits c).After-entry_fits c.if-not-entry_fits.false) (omega arith)
