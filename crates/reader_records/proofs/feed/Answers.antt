use Rattle.std.specs.Prelude.{Err, Ok}
use Rattle.reader_records.specs.Records.{step_in, packet_in}
use Rattle.reader_records.proofs.Records.{record_left, every_protocol}
use Rattle.packet_protocols.specs.declared.Protocol.TheVariants.{Two}
use Rattle.reader_records.proofs.feed.Goals as goal

pub returns-in-Ok : goal.returns-in-Ok
unfolding step_in packet_in
returns-in-Ok c =
    let e = c.in-Ok.ensures in
    record { step_value = (e.0, e.2, record_left Two (Ok c.in-Ok.step) _ _ _ e.0 e.1); every_protocol = every_protocol }

pub returns-in_default : goal.returns-in_default
unfolding step_in packet_in
returns-in_default c =
    let e = c.in_default.ensures in
    record {
      step_value = (c.feed-step.ensures.0, e.2, record_left Two (Err c.in_default.field-0) _ _ _ e.0 e.1);
      every_protocol = every_protocol;
    }
