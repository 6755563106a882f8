use mathlib.Core.Path.{◌≡◌}
use native.Mathlib.Omega.{arith}
use lib.IntN.{pos}
use lib.ListN.{get_or}
use mir.Syntax.{w32}
use mir.Val.{to_z, of_z}
use borrow.Author.Rules.{rules}
use Rattle.plan.specs.Goals.{wanted}
use Rattle.plan_check.specs.Checking.{past}
use Rattle.plan_check.proofs.Steps.{below_next, none_needed, needed_stood}
use Rattle.plan_check.proofs.all_stood.Goals as goal
use Rattle.plan_check.proofs.all_stood.Goals.{else-goals-id-ge0-via-then-goals-id-ge0+else-not-stood-id, else-goals-id-ge0-via-else-goals-id-ge0}

pub loop-id-init : goal.loop-id-init
loop-id-init c = λ k h. absurd (omega arith)

pub loop-id-preserved : goal.loop-id-preserved
loop-id-preserved c =
    let goals = c.args.goals.now in
    let stood = c.args.stood.now in
    let id = c.loop-id.id in
    let g = get_or goals id (pos 0) in
    let element : to_z w32 (of_z w32 g) ≡ g = search rules in
    below_next (λ k. past goals stood k ≡ wanted goals k) id c.loop-id.invariant
    (elim c.else-goals-id-ge0.branch [
      | else-goals-id-ge0-via-then-goals-id-ge0+else-not-stood-id w ↦ needed_stood goals stood id (search rules)
      | else-goals-id-ge0-via-else-goals-id-ge0 w ↦ none_needed goals stood id (omega (arith, c.requires.0, c.loop-id-test.true)) (simp element at w.if-goals-id-ge0.false)
    ])

pub returns : goal.returns
returns c = λ id h. c.loop-id.invariant id (omega (arith, c.loop-id-test.false))
