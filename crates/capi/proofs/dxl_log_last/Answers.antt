use mathlib.Core.Path.{ap, ◌∙◌}
use Rattle.line_log.proofs.Promises.{log_promises}
use Rattle.numbers.specs.Exported.{found_numbers}
use Rattle.fits.proofs.Logs.{found_fits}
use Rattle.capi.proofs.dxl_log_last.Goals as goal

pub returns : goal.returns
returns c =
    record {
      value = c.from.ensures ∙ ap found_numbers c.last.ensures;
      log_promises = (log_promises, found_fits);
    }
