use mathlib.Core.Path.{ap, ◌∙◌}
use mir.Facts.{to_z-of_z}
use mir.Syntax.{w64}
use Rattle.packet_v1.specs.Packet.{up_to, last_of_p1}
use Rattle.packet_encoder_v1.proofs.RoundTrip.{round_trip}
use Rattle.answers.specs.Answers.{exported}
use Rattle.fits.proofs.Counts.{counts_fit}
use Rattle.capi_v1.proofs.dxl_p1_encode.Goals as goal

pub returns : goal.returns
returns c =
    let e = c.encode in record {
      value = to_z-of_z {w = w64} (record { sfits = c.exported.type_inv }) ∙ c.exported.ensures ∙ ap exported e.ensures.value;
      out_after = e.ensures.out_after;
      round_trip = (round_trip (up_to last_of_p1), counts_fit);
    }
