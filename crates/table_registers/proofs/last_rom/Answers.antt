use mathlib.Core.Path.{ap, ◌∙◌}
use Rattle.std.specs.Prelude.{Some}
use native.Mathlib.Omega.{arith}
use Rattle.table_registers.specs.Registers.{registers, homing_offset, max_position, min_position}
use Rattle.table_registers.proofs.Rows.{place_in, mark_of, own_row, none_from}
use Rattle.table_registers.proofs.last_rom.Goals as goal

pub returns-then-a : goal.returns-then-a
unfolding registers place_in
returns-then-a c = ap Some c.in_rom.ensures ∙ own_row (mark_of homing_offset) (omega arith) _ (omega arith) (omega arith)

pub returns-then-a-lt-REG_MAX_POSITION : goal.returns-then-a-lt-REG_MAX_POSITION
unfolding registers place_in
returns-then-a-lt-REG_MAX_POSITION c = none_from 24 24 tt _ (omega arith) (omega arith)

pub returns-then-a-2 : goal.returns-then-a-2
unfolding registers place_in
returns-then-a-2 c = ap Some c.in_rom-then-a-2.ensures ∙ own_row (mark_of max_position) (omega arith) _ (omega arith) (omega arith)

pub returns-then-a-3 : goal.returns-then-a-3
unfolding registers place_in
returns-then-a-3 c = ap Some c.in_rom-then-a-3.ensures ∙ own_row (mark_of min_position) (omega arith) _ (omega arith) (omega arith)

pub returns : goal.returns
unfolding registers place_in
returns c = none_from 56 8 tt _ (omega arith) (omega arith)
