use mathlib.Core.Path.{ap, ◌∙◌}
use Rattle.log_salvage.proofs.Promises.{salvage_promises}
use Rattle.log_cases.proofs.Cases.{salvage_cases}
use Rattle.numbers.specs.Exported.{salvaged_numbers}
use Rattle.fits.proofs.Logs.{salvaged_fits}
use Rattle.capi.proofs.dxl_log_salvage.Goals as goal

pub returns : goal.returns
returns c =
    let e = c.salvage in record {
      value = c.from.ensures ∙ ap salvaged_numbers e.ensures.value;
      out_after = e.ensures.out_after;
      report_after = e.ensures.report_after;
      salvage = (salvage_promises, salvage_cases, salvaged_fits);
    }
