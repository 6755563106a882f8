use mathlib.Core.Path.{◌∙◌}
use Rattle.device_instructions.proofs.Denied.{denied}
use Rattle.device_instructions.proofs.Effects.{read_refused, read_done}
use Rattle.device_instructions.proofs.read.Goals as goal

pub returns-in_err-bytes : goal.returns-in_err-bytes
returns-in_err-bytes c =
    λ w.
    denied c.from_residual.result c.in_err-bytes.field-0.0 c.from_residual.ensures.1 w
    ∙ read_refused c.args.table.now w c.args.address c.args.count _ c.in_err-bytes.ensures.outcome_value

pub returns : goal.returns
returns c =
    λ w.
    rw c.from.ensures
    (read_done c.args.table.now w c.args.address c.args.count c.in_ok-bytes.ensures.outcome_value c.in_ok-bytes.bytes c.in_ok-bytes.ensures.bytes_value)
