use mathlib.Core.Path.{sym}
use native.Mathlib.Omega.{arith}
use borrow.Author.Rules.{rules}
use borrow.Author.Tests.{ne_eqb}
use Rattle.log_writer.proofs.Rounds.{sum_turn, sum_end, none_left}
use Rattle.log_writer.proofs.adds_up.Goals as goal

pub returns-then-left-n : goal.returns-then-left-n
returns-then-left-n c =
    let t = sum_turn c.args.lengths.now c.loop-length.length-index (search rules) in
    sym (ne_eqb _ _ (λ e. omega arith))

pub loop-length-preserved : goal.loop-length-preserved
loop-length-preserved c = let t = sum_turn c.args.lengths.now c.loop-length.length-index (search rules) in omega arith

pub returns : goal.returns
returns c = let t = sum_end c.args.lengths.now c.loop-length.length-index (search rules) in none_left _ _ _ (omega arith)
