use Rattle.std.specs.Prelude.{Option}
use Rattle.std.proofs.lemmas.Result.{err_from_is_err_and}
use mathlib.Core.Path.{sym, ap, ◌∙◌}
use Prim.Native.Nat.{ℕ, ◌+◌, ◌≤◌}
use lib.ListN.{length}
use Rattle.answers.specs.Refusals.{unless_refused}
use Rattle.buffers.proofs.Parts.{placed_whole}
use Rattle.table_rules.specs.Rules.{stored}
use Rattle.table_access.proofs.Theorems.{write_inside}
use Rattle.table_access.proofs.write.Goals as goal
use Rattle.table_access.proofs.write.Goals.{In_ok-judge}

pub returns-in_err-judge : goal.returns-in_err-judge
returns-in_err-judge c =
    let a = c.args in
    let p = err_from_is_err_and c.from_residual.result c.from_residual.ensures.1 in
    record {
      result_value = rw (p.1, p.2) c.in_err-judge.ensures;
      table_after = ap (λ (o : Option ℕ). unless_refused o a.table.now (stored a.table.now a.address a.bytes.now)) c.in_err-judge.ensures;
    }

inside : (c : In_ok-judge) → c.args.address + length c.args.bytes.now ≤ length c.args.table.now
inside c = write_inside c.args.table.now c.args.address c.args.bytes.now (sym c.in_ok-judge.ensures)

pub returns : goal.returns
returns c =
    let a = c.args in
    record {
      result_value = c.in_ok-judge.ensures;
      table_after = c.place.ensures ∙ placed_whole a.table.now a.bytes.now a.address (inside (goal.at.returns c).In_ok-judge)
          ∙ ap (λ (o : Option ℕ). unless_refused o a.table.now (stored a.table.now a.address a.bytes.now)) c.in_ok-judge.ensures;
    }
