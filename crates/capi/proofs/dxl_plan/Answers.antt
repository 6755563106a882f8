use mathlib.Core.Path.{ap, ◌∙◌}
use mir.Facts.{to_z-of_z}
use mir.Syntax.{w64}
use Rattle.plan_laws.proofs.Planned.{planned}
use Rattle.plan_heard.proofs.OnBoard.{plan_carried_out}
use Rattle.answers.specs.Answers.{exported}
use Rattle.fits.proofs.Counts.{counts_fit}
use Rattle.capi.proofs.dxl_plan.Goals as goal

pub returns : goal.returns
returns c =
    let e = c.write_plan in record {
      value = to_z-of_z {w = w64} (record { sfits = c.exported.type_inv }) ∙ c.exported.ensures ∙ ap exported e.ensures.value;
      out_after = e.ensures.out_after;
      planned = (planned, plan_carried_out, counts_fit);
    }
