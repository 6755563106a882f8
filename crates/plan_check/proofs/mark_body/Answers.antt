use mathlib.Core.Path.{◌≡◌, ap}
use mathlib.Core.Bool.{not}
use Prim.Native.Nat.{◌-◌, ◌≤◌}
use native.Mathlib.Omega.{arith}
use lib.ListN.{length, take, drop, length-take, length-drop}
use lib.Seq.{take_all}
use Rattle.plan.specs.Plan.{plan_head}
use Rattle.plan_check.proofs.Bodies.{decided, decided_not, body_says}
use Rattle.plan_check.proofs.mark_body.Goals as goal
use Rattle.plan_check.proofs.mark_body.Goals.{Else-not-has_head}

pub returns-then-not-has_head : goal.returns-then-not-has_head
returns-then-not-has_head c =
    let a = c.args in
    λ e. absurd (decided_not c.has_head.result (take 5 a.body.now ≡ plan_head) c.has_head.ensures (ap not c.if-not-has_head.true) e)

-- once the head was found
headed : (c : Else-not-has_head) → take 5 c.args.body.now ≡ plan_head
headed c =
    decided c.has_head.result (take 5 c.args.body.now ≡ plan_head) c.has_head.ensures (ap not c.if-not-has_head.false)

long : (c : Else-not-has_head) → 5 ≤ length c.args.body.now
long c = omega (arith, ap length (headed c), length-take 5 c.args.body.now)

pub slice_bounds-mark_entries-count : goal.slice_bounds-mark_entries-count
slice_bounds-mark_entries-count c = let l = long c in omega arith

pub slice_bounds-mark_entries-start : goal.slice_bounds-mark_entries-start
slice_bounds-mark_entries-start c = let l = long c in omega arith

pub returns : goal.returns
returns c =
    let a = c.args in
    body_says a.goals.now a.stood.now a.body.now _ c.mark_entries.new.stood c.mark_entries.result (headed (goal.at.returns c).Else-not-has_head)
    (take_all (length a.body.now - 1) (drop 1 a.body.now) (simp length-drop (omega arith))) c.mark_entries.ensures
