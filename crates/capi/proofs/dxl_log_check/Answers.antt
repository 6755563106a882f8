use mathlib.Core.Path.{ap, ◌∙◌}
use mir.Facts.{to_z-of_z}
use mir.Syntax.{w64}
use Rattle.line_log.specs.Soundness.{check_refusal}
use Rattle.line_log.proofs.Promises.{sound_exactly}
use Rattle.answers.specs.Answers.{exported_done}
use Rattle.capi.proofs.Done.{done_is}
use Rattle.capi.proofs.dxl_log_check.Goals as goal

pub returns : goal.returns
returns c =
    let e = c.exported_done in
    record {
      value =
          to_z-of_z {w = w64} (record { sfits = e.type_inv }) ∙ e.ensures ∙ ap exported_done c.check.ensures
          ∙ done_is (check_refusal c.args.file.now);
      sound_exactly = sound_exactly;
    }
