use mathlib.Core.Path.{sym, ◌∙◌}
use native.Mathlib.Omega.{arith}
use borrow.Author.Tests.{eqb-true}
use Rattle.answers.specs.declared.Refusal.TheVariants.{BadLog, NoRoom}
use Rattle.log_writer.proofs.Parts.{refused_sum, refused_long, refused_room, not_refused, refusing, writing, written_length}
use Rattle.log_writer.proofs.write.Goals as goal
use Rattle.log_writer.proofs.write.Goals.{then-not-adds_up-via-then-not-adds_up, then-not-adds_up-via-else-not-adds_up+then-lengths-gt-MOST_SEGMENTS}

pub returns-then-not-adds_up : goal.returns-then-not-adds_up
returns-then-not-adds_up c =
    let a = c.args in
    let both = refusing a.bytes.now a.lengths.now a.out.now BadLog
    (elim c.then-not-adds_up.branch [
      | then-not-adds_up-via-then-not-adds_up w ↦ refused_sum a.bytes.now a.lengths.now a.out.now (sym c.adds_up.ensures ∙ w.if-not-adds_up.true)
      | then-not-adds_up-via-else-not-adds_up+then-lengths-gt-MOST_SEGMENTS w ↦ refused_long a.bytes.now a.lengths.now a.out.now (sym c.adds_up.ensures ∙ w.if-not-adds_up.false) (omega (arith, w.if-lengths-gt-MOST_SEGMENTS.true))
    ]) in
    record { value = both.0; out_after = both.1 }

pub returns-then-first-bytes : goal.returns-then-first-bytes
returns-then-first-bytes c =
    let a = c.args in let both = refusing a.bytes.now a.lengths.now a.out.now BadLog
    (refused_long _ _ _ (sym c.adds_up.ensures ∙ c.if-not-adds_up.false) (omega (arith, c.if-first-bytes.true))) in record { value = both.0; out_after = both.1 }

pub returns-then-out-first : goal.returns-then-out-first
returns-then-out-first c =
    let a = c.args in let both = refusing a.bytes.now a.lengths.now a.out.now NoRoom
    (refused_room _ _ _ (sym c.adds_up.ensures ∙ c.if-not-adds_up.false)
    (omega (arith, c.if-first-bytes.false, c.if-lengths-gt-MOST_SEGMENTS.false)) (omega (arith, c.if-out-first.true))) in record { value = both.0; out_after = both.1 }

pub put_log-requires : goal.put_log-requires
put_log-requires c = (eqb-true _ _ (sym c.adds_up.ensures ∙ c.if-not-adds_up.false), omega (arith, c.if-out-first.false))

pub returns : goal.returns
returns c =
    let a = c.args in
    let e = sym c.adds_up.ensures ∙ c.if-not-adds_up.false in let both = writing a.bytes.now a.lengths.now a.out.now _ _
    (not_refused _ _ _ e (omega (arith, c.if-first-bytes.false, c.if-lengths-gt-MOST_SEGMENTS.false)) (omega (arith, c.if-out-first.false)))
    (written_length _ _ (eqb-true _ _ e)) c.put_log.ensures in record { value = both.0; out_after = both.1 }
