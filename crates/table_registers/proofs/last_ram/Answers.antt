use mathlib.Core.Path.{ap, ◌∙◌}
use Rattle.std.specs.Prelude.{Some}
use native.Mathlib.Omega.{arith}
use Rattle.table_registers.specs.Registers.{registers, goal_velocity, goal_position, present_position}
use Rattle.table_registers.proofs.Rows.{place_in, mark_of, own_row, none_from, none_past}
use Rattle.table_registers.proofs.last_ram.Goals as goal

pub returns-then-a : goal.returns-then-a
unfolding registers place_in
returns-then-a c = ap Some c.in_ram.ensures ∙ own_row (mark_of goal_velocity) (omega arith) _ (omega arith) (omega arith)

pub returns-then-a-lt-REG_GOAL_POSITION : goal.returns-then-a-lt-REG_GOAL_POSITION
unfolding registers place_in
returns-then-a-lt-REG_GOAL_POSITION c = none_from 108 8 tt _ (omega arith) (omega arith)

pub returns-then-a-2 : goal.returns-then-a-2
unfolding registers place_in
returns-then-a-2 c = ap Some c.in_ram-then-a-2.ensures ∙ own_row (mark_of goal_position) (omega arith) _ (omega arith) (omega arith)

pub returns-then-a-lt-REG_PRESENT_POSITION : goal.returns-then-a-lt-REG_PRESENT_POSITION
unfolding registers place_in
returns-then-a-lt-REG_PRESENT_POSITION c = none_from 120 12 tt _ (omega arith) (omega arith)

pub returns-then-a-3 : goal.returns-then-a-3
unfolding registers place_in
returns-then-a-3 c = ap Some c.read_only.ensures ∙ own_row (mark_of present_position) (omega arith) _ (omega arith) (omega arith)

pub returns : goal.returns
returns c = none_past _ (omega arith)
