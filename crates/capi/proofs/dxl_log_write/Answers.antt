use mathlib.Core.Path.{ap, ◌∙◌}
use mir.Facts.{to_z-of_z}
use mir.Syntax.{w64}
use Rattle.log_writer.proofs.Parts.{writes_sound}
use Rattle.answers.specs.Answers.{exported}
use Rattle.fits.proofs.Counts.{counts_fit}
use Rattle.capi.proofs.dxl_log_write.Goals as goal

pub returns : goal.returns
returns c =
    let e = c.write in record {
      value = to_z-of_z {w = w64} (record { sfits = c.exported.type_inv }) ∙ c.exported.ensures ∙ ap exported e.ensures.value;
      out_after = e.ensures.out_after;
      writes_sound = (writes_sound, counts_fit);
    }
