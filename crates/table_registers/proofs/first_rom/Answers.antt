use mathlib.Core.Path.{ap, ◌∙◌}
use Rattle.std.specs.Prelude.{Some}
use native.Mathlib.Omega.{arith}
use Rattle.table_registers.specs.Registers.{registers, model_number, firmware_version, device_id, baud_code}
use Rattle.table_registers.proofs.Rows.{place_in, mark_of, own_row, none_from}
use Rattle.table_registers.proofs.first_rom.Goals as goal

pub returns-then-a : goal.returns-then-a
unfolding registers place_in
returns-then-a c = ap Some c.read_only.ensures ∙ own_row (mark_of model_number) (omega arith) _ (omega arith) (omega arith)

pub returns-then-a-lt-REG_FIRMWARE_VERSION : goal.returns-then-a-lt-REG_FIRMWARE_VERSION
unfolding registers place_in
returns-then-a-lt-REG_FIRMWARE_VERSION c = none_from 2 4 tt _ (omega arith) (omega arith)

pub returns-then-a-2 : goal.returns-then-a-2
unfolding registers place_in
returns-then-a-2 c = ap Some c.read_only-then-a-2.ensures ∙ own_row (mark_of firmware_version) (omega arith) _ (omega arith) (omega arith)

pub returns-then-a-3 : goal.returns-then-a-3
unfolding registers place_in
returns-then-a-3 c = ap Some c.in_rom.ensures ∙ own_row (mark_of device_id) (omega arith) _ (omega arith) (omega arith)

pub returns-then-a-4 : goal.returns-then-a-4
unfolding registers place_in
returns-then-a-4 c = ap Some c.in_rom-then-a-4.ensures ∙ own_row (mark_of baud_code) (omega arith) _ (omega arith) (omega arith)

pub returns : goal.returns
unfolding registers place_in
returns c = none_from 9 11 tt _ (omega arith) (omega arith)
