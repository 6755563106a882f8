use Rattle.std.specs.Prelude.{Result}
use mathlib.Core.Path.{◌≡◌, sym, ap, ◌∙◌}
use Rattle.answers.specs.declared.Refusal.{Refusal}
use Rattle.numbers.specs.Exported.{step_numbers}
use Rattle.packet_protocols.specs.declared.Protocol.TheVariants.{Two}
use Rattle.reader_core.specs.declared.Step.{Step}
use Rattle.reader_records.specs.declared.Reader.{Reader}
use Rattle.reader_records.specs.Records.{held_by, step_in, packet_in}
use Rattle.reader_records.proofs.Records.{record_left, every_protocol}
use Rattle.fits.proofs.Steps.{steps_fit}
use Rattle.capi.proofs.dxl_reader_feed.Goals as goal
use Rattle.capi.proofs.dxl_reader_feed.Goals.{in-Ok, in_default}

pub returns : goal.returns
unfolding step_in packet_in
returns c =
    let e = c.feed-step.ensures in
    let answer : c.from.result ≡ step_numbers c.feed-step.result =
    elim c.match-step.branch [
      | in-Ok w ↦ c.from.ensures ∙ ap step_numbers (w.step-is ∙ sym w.in-Ok.is)
      | in_default w ↦ c.from.ensures ∙ ap step_numbers w.step-is
    ] in
    let left : Result Step Refusal → Reader =
    λ a. record { bytes = c.feed-step.new.held; count = held_by c.args.reader.now.count a } in
    let reader : c.match-step.reader ≡ left c.feed-step.result =
    elim c.match-step.branch [
      | in-Ok w ↦ w.reader-is ∙ ap left (sym w.in-Ok.is)
      | in_default w ↦ w.reader-is ∙ ap left (sym w.in_default.is)
    ] in
    (answer ∙ ap step_numbers e.0, reader ∙ record_left Two c.feed-step.result _ _ _ e.0 e.1, e.2, every_protocol, steps_fit)
