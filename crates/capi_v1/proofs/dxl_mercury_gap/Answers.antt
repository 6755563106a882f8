use mathlib.Core.Path.{◌≡◌, sym, ap, ◌∙◌}
use Rattle.numbers.specs.Exported.{step_numbers}
use Rattle.packet_protocols.specs.declared.Protocol.TheVariants.{Mercury}
use Rattle.reader_records.specs.Records.{held_by, step_in, packet_in}
use Rattle.reader_records.proofs.Records.{record_left, every_protocol}
use Rattle.fits.proofs.Steps.{steps_fit}
use Rattle.capi_v1.proofs.dxl_mercury_gap.Goals as goal
use Rattle.capi_v1.proofs.dxl_mercury_gap.Goals.{in-Ok, in_default}

pub returns : goal.returns
unfolding step_in packet_in
returns c =
    let e = c.gap-step.ensures in
    let answer : c.from.result ≡ step_numbers c.gap-step.result =
    elim c.match-step.branch [
      | in-Ok w ↦ c.from.ensures ∙ ap step_numbers (w.step-is ∙ sym w.in-Ok.is)
      | in_default w ↦ c.from.ensures ∙ ap step_numbers w.step-is
    ] in
    let count : c.match-step.count ≡ held_by c.args.count.now c.gap-step.result =
    elim c.match-step.branch [
      | in-Ok w ↦ w.count-is ∙ ap (held_by c.args.count.now) (sym w.in-Ok.is)
      | in_default w ↦ w.count-is ∙ ap (held_by c.args.count.now) (sym w.in_default.is)
    ] in record {
      value = answer ∙ ap step_numbers e.0;
      count_after = rw count (record_left Mercury c.gap-step.result _ _ _ e.0 e.1);
      packet_after = e.2;
      every_protocol = (every_protocol, steps_fit);
    }
