use mathlib.Core.Path.{ap, ◌∙◌}
use mir.Facts.{to_z-of_z}
use mir.Syntax.{w64}
use Rattle.device_status.proofs.Sent.{reply_written}
use Rattle.device.proofs.Split.{split}
use Rattle.answers.specs.Answers.{exported}
use Rattle.fits.proofs.Counts.{counts_fit}
use Rattle.capi.proofs.dxl_status.Goals as goal

pub returns : goal.returns
returns c =
    let e = c.send in record {
      value = to_z-of_z {w = w64} (record { sfits = c.exported.type_inv }) ∙ c.exported.ensures ∙ ap exported e.ensures.value;
      out_after = e.ensures.out_after;
      split = (split, reply_written, counts_fit);
    }
