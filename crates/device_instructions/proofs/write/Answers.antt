use Rattle.std.specs.Prelude.{None, Some}
use mathlib.Core.Path.{◌∙◌}
use Rattle.device_instructions.proofs.Denied.{denied}
use Rattle.device_instructions.proofs.Effects.{write_done, write_table}
use Rattle.device_instructions.proofs.write.Goals as goal

pub returns-in_err-write : goal.returns-in_err-write
returns-in_err-write c =
    let a = c.args in
    record {
      value = λ w.
          denied c.from_residual.result c.in_err-write.field-0.0 c.from_residual.ensures.1 w
          ∙ write_done a.table.now w a.address a.bytes.now (Some _) c.in_err-write.ensures.result_value;
      table_after = λ w. c.write.ensures.table_after ∙ write_table a.table.now w a.address a.bytes.now;
    }

pub returns : goal.returns
returns c =
    let a = c.args in
    record {
      value = λ w. rw c.none.ensures (write_done a.table.now w a.address a.bytes.now None c.in_ok-write.ensures.result_value);
      table_after = λ w. c.write.ensures.table_after ∙ write_table a.table.now w a.address a.bytes.now;
    }
