use mathlib.Core.Path.{◌≡◌, sym, ap, ◌∙◌}
use native.Mathlib.Omega.{arith}
use lib.IntN.{pos}
use lib.ListN.{length, get_or}
use mir.Syntax.{w32}
use mir.Val.{to_z, of_z}
use borrow.Author.Rules.{rules}
use Rattle.plan.specs.Planner.{entries_from}
use Rattle.plan_writer.proofs.Writing.{wanted_counted, at_wanted, at_unwanted, at_end}
use Rattle.plan_writer.proofs.count_wanted.Goals as goal
use Rattle.plan_writer.proofs.count_wanted.Goals.{then-goals-id-ge0, else-goals-id-ge0}

pub loop-id-init : goal.loop-id-init
loop-id-init c = (omega arith, omega arith)

pub loop-id-preserved : goal.loop-id-preserved
loop-id-preserved c =
    let goals = c.args.goals.now in
    let h = c.loop-id in
    let g = get_or goals h.id (pos 0) in
    let element : to_z w32 (of_z w32 g) ≡ g = search rules in
    elim c.if-goals-id-ge0.branch [
      | then-goals-id-ge0 w ↦
          (omega (arith, w.n-is, h.invariant.0), omega (arith, w.n-is, h.invariant.1, ap length (at_wanted goals h.id c.loop-id-test.true (simp element at w.if-goals-id-ge0.true))))
      | else-goals-id-ge0 w ↦
          (omega (arith, w.n-is, h.invariant.0), omega (arith, w.n-is, h.invariant.1, ap length (at_unwanted goals h.id c.loop-id-test.true (simp element at w.if-goals-id-ge0.false))))
    ]

pub returns : goal.returns
returns c =
    let goals = c.args.goals.now in
    let n : c.loop-id.n ≡ length (entries_from goals 0) = omega (arith, c.loop-id.invariant.1, ap length (at_end goals c.loop-id.id c.loop-id-test.false)) in
    n ∙ sym (wanted_counted goals 0)
