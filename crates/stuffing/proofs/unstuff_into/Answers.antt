use Rattle.std.specs.Prelude.{Ok}
use mathlib.Core.Path.{◌≡◌, sym, ap, ◌∙◌}
use mathlib.Core.Bool.{true}
use Prim.Native.Nat.{◌-◌}
use native.Mathlib.Omega.{arith}
use lib.ListN.{length}
use lib.Seq.{take_all}
use borrow.Author.Tests.{le-leb, lt-leb}
use Rattle.lists.specs.Write.{overwritten}
use Rattle.stuffing.specs.Stuffing.{well_stuffed, unstuff}
use Rattle.stuffing.specs.Answers.{removal_refusal}
use Rattle.stuffing.proofs.Answers.{checked_bad, checked_good}
use Rattle.stuffing.proofs.Laws.{unstuff_same}
use Rattle.stuffing.proofs.unstuff_into.Goals as goal
use Rattle.stuffing.proofs.unstuff_into.Goals.{In-Some}

-- the test is passed
good : (t : In-Some) → let body = t.args.body.now in
    (well_stuffed body ≡ true) × (length (unstuff body) ≡ t.in-Some.n)
good t = checked_good _ _ (sym t.check.ensures ∙ t.in-Some.is)

pub returns-in_default : goal.returns-in_default
unfolding removal_refusal
returns-in_default c =
    let a = c.args in
    let e = checked_bad a.body.now (sym c.check.ensures ∙ c.in_default.is) in
    record {
      value = rw e;
      out_after = rw e;
    }

pub returns-then-out-n : goal.returns-then-out-n
unfolding removal_refusal
returns-then-out-n c =
    let a = c.args in
    let g = good (goal.at.returns-then-out-n c).In-Some in
    let l = lt-leb (length (unstuff a.body.now)) (length a.out.now) (omega arith) in
    record {
      value = rw (g.0, l);
      out_after = rw (g.0, l);
    }

pub write_unstuffed-requires : goal.write_unstuffed-requires
write_unstuffed-requires c = let g = good (goal.at.write_unstuffed-requires c).In-Some in (g.0, omega arith)

pub returns-then-n-body : goal.returns-then-n-body
unfolding removal_refusal
returns-then-n-body c =
    let a = c.args in
    let g = good (goal.at.returns-then-n-body c).In-Some in
    let l = le-leb (length (unstuff a.body.now)) (length a.out.now) (omega arith) in
    let same = unstuff_same a.body.now g.0 (omega arith) in
    let all = take_all (length a.out.now - 0) a.body.now (omega arith) in record {
      value = rw (g.0, l) (ap Ok (sym g.1));
      out_after = rw (g.0, l) (c.place.ensures ∙ ap (overwritten a.out.now) (all ∙ sym same));
    }

pub returns-else-n-body : goal.returns-else-n-body
unfolding removal_refusal
returns-else-n-body c =
    let a = c.args in
    let g = good (goal.at.returns-else-n-body c).In-Some in
    let l = le-leb (length (unstuff a.body.now)) (length a.out.now) (omega arith) in
    record {
      value = rw (g.0, l) (ap Ok (sym g.1));
      out_after = rw (g.0, l) c.write_unstuffed.ensures;
    }
