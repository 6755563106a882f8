use Rattle.std.specs.Prelude.{None}
use mathlib.Core.Path.{◌≡◌, sym, ◌∙◌}
use native.Mathlib.Omega.{arith}
use lib.ListN.{length}
use Rattle.table_registers.specs.Registers.{table_size}
use Rattle.table_rules.specs.Rules.{write_rule}
use Rattle.table_rules.specs.Outcomes.{in_table}
use Rattle.table_access.proofs.Theorems.{write_short}
use Rattle.device_instructions.specs.Instructions.{reg_write}
use Rattle.device_instructions.proofs.Denied.{denied}
use Rattle.device_instructions.proofs.Sized.{done}
use Rattle.device_instructions.proofs.Effects.{reg_write_refused, reg_write_stays, reg_write_sized, reg_write_done, reg_write_table}
use Rattle.device_instructions.proofs.reg_write.Goals as goal
use Rattle.device_instructions.proofs.reg_write.Goals.{In_ok-judge}

pub returns-in_err-judge : goal.returns-in_err-judge
returns-in_err-judge c =
    let a = c.args in
    record {
      value = denied c.from_residual.result c.in_err-judge.field-0.0 c.from_residual.ensures.1 a.registered.now
          ∙ reg_write_refused a.table.now a.registered.now a.address a.bytes.now _ c.in_err-judge.ensures;
      table_after = reg_write_stays a.table.now a.registered.now a.address a.bytes.now _ c.in_err-judge.ensures;
    }

-- what was not denied is on a table of its size
module _ (c : In_ok-judge) where
  good : None ≡ in_table c.args.table.now (write_rule c.args.table.now c.args.address c.args.bytes.now)
  good = c.in_ok-judge.ensures

  right_size : length c.args.table.now ≡ table_size
  right_size = reg_write_sized c.args.table.now c.args.registered.now c.args.address c.args.bytes.now good

pub on-requires : goal.on-requires
on-requires c = (right_size c, write_short c.args.table.now c.args.address c.args.bytes.now (sym (good c)))

pub bounds-table-69 : goal.bounds-table-69
bounds-table-69 c = let s = right_size (goal.at.bounds-table-69 c).In_ok-judge in omega arith

pub returns : goal.returns
returns c =
    let a = c.args in
    let at = (goal.at.returns c).In_ok-judge in
    let both = done a.table.now a.registered.now (reg_write a.table.now a.registered.now a.address a.bytes.now) _ _ (right_size at)
    (rw (c.none.ensures, c.on.ensures) (reg_write_done a.table.now a.registered.now a.address a.bytes.now (good at)))
    (reg_write_table a.table.now a.registered.now a.address a.bytes.now (good at)) in
    record { value = both.0; table_after = both.1 }
