use mathlib.Core.Path.{sym, ◌∙◌}
use borrow.Author.Rules.{rules}
use Rattle.std.proofs.lemmas.Result.{err_from_is_err_and}
use Rattle.answers.specs.declared.Refusal.TheVariants.{NoRoom}
use Rattle.log_kept.proofs.Rounds.{was_listed, was_refused}
use Rattle.log_salvage.proofs.Answer.{no_places, passes, refusing, writing}
use Rattle.log_salvage.proofs.salvage.Goals as goal

pub returns-in_err-sorted : goal.returns-in_err-sorted
returns-in_err-sorted c =
    let a = c.args in
    let t = was_refused a.file.now a.report.now _ (sym c.in_err-sorted.ensures.value) in
    let r = refusing a.file.now a.out.now a.report.now NoRoom (no_places _ _ _ (search rules) (search rules) (search rules) t.0) in
    let p = err_from_is_err_and c.from_residual.result c.from_residual.ensures.1 in
    record {
      value = rw (p.1, p.2, t.1) r.0;
      out_after = r.1.0;
      report_after = c.sort.ensures.report_after ∙ t.2 ∙ r.1.1;
    }

pub write_log-requires : goal.write_log-requires
write_log-requires c =
    let a = c.args in
    let t = was_listed a.file.now a.report.now _ (sym c.in_ok-sorted.ensures.value) in
    (t.1, (search rules, search rules))

pub returns : goal.returns
returns c =
    let a = c.args in
    let w = c.write_log.ensures in
    let t = was_listed a.file.now a.report.now _ (sym c.in_ok-sorted.ensures.value) in
    let n = passes a.file.now a.out.now a.report.now (search rules) (search rules) (search rules) t.0 in
    let both = writing a.file.now a.out.now a.report.now _ _ _ n w.value w.out_after (c.sort.ensures.report_after ∙ t.2) in
    record { value = both.0; out_after = both.1.0; report_after = both.1.1 }
