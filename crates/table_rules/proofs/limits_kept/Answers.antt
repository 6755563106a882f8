use mathlib.Core.Path.{sym, ◌∙◌}
use mir.Syntax.{w32}
use mir.Facts.{to_z-of_z}
use native.Mathlib.Omega.{arith}
use Rattle.table_registers.specs.Registers.{registers, max_position, min_position, goal_position}
use Rattle.table_registers.proofs.Rows.{place_in, mark_of}
use Rattle.table_items.specs.Items.{value_at}
use Rattle.table_rules.specs.Rules.{covers, goal_inside, limits_kept}
use Rattle.table_rules.proofs.Walks.{each}
use borrow.Author.Rules.{rules}
use Rattle.table_rules.proofs.limits_kept.Goals as goal

pub returns-then-not-touches_limits : goal.returns-then-not-touches_limits
unfolding limits_kept
returns-then-not-touches_limits c = rw (sym c.touches_limits.ensures ∙ c.if-not-touches_limits.true)

pub word_after-goal-requires : goal.word_after-goal-requires
unfolding registers place_in
word_after-goal-requires c = (search rules, search rules, each (covers _ _) _ _ registers (mark_of goal_position) (omega arith) c.requires.2)

pub word_after-min-requires : goal.word_after-min-requires
unfolding registers place_in
word_after-min-requires c = (search rules, search rules, each (covers _ _) _ _ registers (mark_of min_position) (omega arith) c.requires.2)

pub word_after-max-requires : goal.word_after-max-requires
unfolding registers place_in
word_after-max-requires c = (search rules, search rules, each (covers _ _) _ _ registers (mark_of max_position) (omega arith) c.requires.2)

pub returns : goal.returns
unfolding limits_kept goal_inside value_at
returns c =
    let goal = to_z-of_z {w = w32} {z = c.word_after-goal.result} (record { sfits = c.word_after-goal.type_inv }) in
    let min = to_z-of_z {w = w32} {z = c.word_after-min.result} (record { sfits = c.word_after-min.type_inv }) in
    let max = to_z-of_z {w = w32} {z = c.word_after-max.result} (record { sfits = c.word_after-max.type_inv }) in
    let e = simp (c.word_after-goal.ensures, c.word_after-min.ensures, c.word_after-max.ensures) at (simp (goal, min, max) at c.within.ensures) in
    rw (sym c.touches_limits.ensures ∙ c.if-not-touches_limits.false) e
