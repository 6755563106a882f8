use Rattle.std.specs.Prelude.{None}
use Rattle.std.proofs.lemmas.Result.{err_from_is_err_and}
use mathlib.Core.Path.{◌≡◌, sym, ◌∙◌}
use Prim.Native.Nat.{◌+◌, ◌*◌, ◌≤◌}
use native.Mathlib.Omega.{arith}
use lib.ListN.{length}
use borrow.Author.Tests.{le-leb, lt-leb}
use Rattle.answers.proofs.Laws.{counted, refused}
use Rattle.plan.specs.Goals.{goals_refusal}
use Rattle.plan.specs.Planner.{plan_of, plan_refusal}
use Rattle.plan.proofs.Wanted.{goals_counted}
use Rattle.plan_writer.proofs.Sending.{entries_good, count_few, size_is}
use Rattle.plan_writer.proofs.Writing.{wanted_counted}
use Rattle.plan_writer.proofs.write_plan.Goals as goal
use Rattle.plan_writer.proofs.write_plan.Goals.{After-div_ceil}

pub returns-in_err-test_goals : goal.returns-in_err-test_goals
unfolding plan_refusal
returns-in_err-test_goals c =
    let p = err_from_is_err_and c.from_residual.result c.from_residual.ensures.1 in
    let e = refused (goals_refusal c.args.goals.now) tt _ (sym c.in_err-test_goals.ensures) in
    record {
      value = rw (e, p.1, p.2);
      out_after = rw e;
    }

-- the goals are not refused, and the size is the plan's
module _ (k : After-div_ceil) where
  good : goals_refusal k.args.goals.now ≡ None
  good =
      (counted (goals_refusal k.args.goals.now) tt _ (sym k.in_ok-test_goals.ensures)).0

  few : k.count_wanted-n.result ≤ 253
  few = count_few k.args.goals.now good k.count_wanted-n.result (k.count_wanted-n.ensures ∙ wanted_counted _ 0)

  size : 14 * k.div_ceil.result + 5 * k.count_wanted-n.result ≡ length (plan_of k.args.goals.now)
  size =
      omega (arith, k.div_ceil.ensures, size_is k.args.goals.now good k.count_wanted-n.result (k.count_wanted-n.ensures ∙ wanted_counted _ 0))

pub overflow_mul-size : goal.overflow_mul-size
overflow_mul-size c = omega (arith, c.div_ceil.ensures, few c)

pub overflow_mul-size-2 : goal.overflow_mul-size-2
overflow_mul-size-2 c = omega (arith, few c)

pub overflow_add-size : goal.overflow_add-size
overflow_add-size c = omega (arith, c.div_ceil.ensures, few c)

pub returns-then-out-size : goal.returns-then-out-size
unfolding plan_refusal
returns-then-out-size c =
    let a = c.args in
    let l = lt-leb (length (plan_of a.goals.now)) (length a.out.now) (omega (arith, size (goal.at.returns-then-out-size c).After-div_ceil, c.if-out-size.true)) in
    record {
      value = rw (good (goal.at.returns-then-out-size c).After-div_ceil, l);
      out_after = rw (good (goal.at.returns-then-out-size c).After-div_ceil, l);
    }

pub write_packets-requires : goal.write_packets-requires
write_packets-requires c =
    let a = c.args in
    (omega (arith, goals_counted a.goals.now (good (goal.at.write_packets-requires c).After-div_ceil)), (c.count_wanted-n.ensures ∙ wanted_counted _ 0), entries_good a.goals.now (good (goal.at.write_packets-requires c).After-div_ceil), omega (arith, size (goal.at.write_packets-requires c).After-div_ceil, c.if-out-size.false))

pub returns : goal.returns
unfolding plan_refusal
returns c =
    let a = c.args in
    let l = le-leb (length (plan_of a.goals.now)) (length a.out.now) (omega (arith, size (goal.at.returns c).After-div_ceil, c.if-out-size.false)) in
    record {
      value = rw (good (goal.at.returns c).After-div_ceil, l, size (goal.at.returns c).After-div_ceil);
      out_after = rw (good (goal.at.returns c).After-div_ceil, l) c.write_packets.ensures;
    }
