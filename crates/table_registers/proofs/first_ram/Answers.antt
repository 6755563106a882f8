use mathlib.Core.Path.{◌≡◌, refl, ap, ◌∙◌}
use mathlib.Core.Bool.{Bool, true, false}
use Rattle.std.specs.Prelude.{None, Some}
use native.Mathlib.Omega.{arith}
use lib.Dec.{ltb}
use borrow.Author.Tests.{ltb-true, ltb-false}
use Rattle.table_registers.specs.Registers.{registers, torque_enable, lamp, status_return_level, registered_instruction, hardware_error}
use Rattle.table_registers.specs.Rows.{row_at}
use Rattle.table_registers.proofs.Rows.{place_in, mark_of, own_row, none_from}
use Rattle.table_registers.proofs.first_ram.Goals as goal

pub returns-in-64 : goal.returns-in-64
unfolding registers place_in
returns-in-64 c = ap Some c.in_ram.ensures ∙ own_row (mark_of torque_enable) (omega arith) _ (omega arith) (omega arith)

pub returns-in-65 : goal.returns-in-65
unfolding registers place_in
returns-in-65 c = ap Some c.in_ram-in-65.ensures ∙ own_row (mark_of lamp) (omega arith) _ (omega arith) (omega arith)

pub returns-in-68 : goal.returns-in-68
unfolding registers place_in
returns-in-68 c = ap Some c.in_ram-in-68.ensures ∙ own_row (mark_of status_return_level) (omega arith) _ (omega arith) (omega arith)

pub returns-in-69 : goal.returns-in-69
unfolding registers place_in
returns-in-69 c = ap Some c.read_only.ensures ∙ own_row (mark_of registered_instruction) (omega arith) _ (omega arith) (omega arith)

pub returns-in-70 : goal.returns-in-70
unfolding registers place_in
returns-in-70 c = ap Some c.read_only-in-70.ensures ∙ own_row (mark_of hardware_error) (omega arith) _ (omega arith) (omega arith)

-- no register has a byte between the lamp and the status return level, nor one past the hardware error
pub returns-in_default : goal.returns-in_default
unfolding registers place_in
returns-in_default c = by_test (ltb c.args.a 68) refl
  where
    by_test : (b : Bool) → ltb c.args.a 68 ≡ b → None ≡ row_at c.args.a
    by_test true e =
        let l = ltb-true c.args.a 68 e in
        none_from 66 2 tt _ (omega arith) (omega arith)
    by_test false e =
        let l = ltb-false c.args.a 68 e in
        none_from 71 33 tt _ (omega arith) (omega arith)
