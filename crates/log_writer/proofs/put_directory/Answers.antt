use mathlib.Core.Path.{refl, ◌∙◌}
use native.Mathlib.Omega.{arith}
use Rattle.lists.proofs.Filling.{fill_from, fill_length}
use Rattle.log_writer.proofs.Rounds.{sum_turn, directory_end, fill_entry}
use Rattle.log_parts.proofs.Numbers.{put_fits, filled_end}
use borrow.Author.Rules.{rules}
use Rattle.log_writer.proofs.put_directory.Goals as goal

pub loop-i-init : goal.loop-i-init
loop-i-init c = (refl, refl, fill_from _ _ 16 (search rules))

pub overflow_add-start-in-loop-i : goal.overflow_add-start-in-loop-i
overflow_add-start-in-loop-i c =
    let l = c.loop-i in
    omega (arith, sum_turn c.args.lengths.now l.i (search rules), l.invariant.1)

pub loop-i-preserved : goal.loop-i-preserved
loop-i-preserved c =
    let l = c.loop-i in
    let a = c.args in
    let t = sum_turn a.lengths.now l.i (search rules) in
    let e = c.put_entry.ensures ∙ put_fits _ _ _ _ (omega (arith, l.invariant.0, l.invariant.1, t)) in
    let f = fill_entry _ _ l.out _ a.lengths.now l.i l.start (search rules) l.invariant.2 (omega (arith, l.invariant.0, l.invariant.1)) e in
    (fill_length _ _ _ _ _ f, omega (arith, t, l.invariant.1), f)

pub returns : goal.returns
returns c =
    let l = c.loop-i in
    filled_end _ _ l.out 16 _ _ (search rules) (directory_end c.args.lengths.now l.i l.start (search rules)) l.invariant.2
