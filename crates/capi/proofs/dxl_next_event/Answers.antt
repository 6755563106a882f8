use mathlib.Core.Path.{ap, ◌∙◌}
use Prim.Native.Nat.{◌≤◌}
use Rattle.numbers.specs.Exported.{next_numbers}
use Rattle.packet.proofs.Burst.{burst_detected}
use Rattle.reader_records.specs.Records.{held_in, records}
use Rattle.packet_protocols.specs.declared.Protocol.TheVariants.{Two}
use Rattle.reader_records.proofs.Records.{follows}
use Rattle.reader_plain.proofs.Plain.{plain_promises}
use Rattle.fits.proofs.Steps.{event_fits}
use Rattle.capi.proofs.dxl_next_event.Goals as goal

pub returns : goal.returns
returns c =
    record {
      value = c.from.ensures ∙ ap next_numbers c.next_event.ensures;
      plain_promises = (plain_promises records (λ r. r.count ≤ 1030) held_in (follows Two), event_fits);
      burst_detected = burst_detected;
    }
