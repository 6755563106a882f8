use mathlib.Core.Path.{refl}
use mathlib.Core.List.{List, [], ◌∷◌}
use Prim.Native.Nat.{ℕ}
use lib.ListN.{replicate}
use borrow.Author.Tests.{leb-true, ltb-true}
use Rattle.lists.proofs.Decided.{are_bytes}
use Rattle.crc.specs.Crc.{reduce_if, shift, shifts, crc_byte, crc_from}
use Rattle.stuffing.specs.Stuffing.{stuff_after, well_after, unstuff_after}
use Rattle.reading.proofs.Decided.{well}
use Rattle.packet_front.specs.Front.{length_of}
use Rattle.packet_front.specs.Header.{front_agrees, length_agrees}
use Rattle.packet_rules.specs.Shape.{verdict as shapeVerdict}
use Rattle.packet.specs.Packet.{body_of, checksum_right, WellFormed}
use Rattle.packet.specs.Verdict.{protocol2}
use Rattle.packet.proofs.Laws.{laws}
use Rattle.packet_encoder.specs.Writing.{with_checksum, packet_of}
use Rattle.packet_encoder.specs.Applied.{stuffed_body, stuffed_packet, RoundTripApplied}

stuffed_well : WellFormed stuffed_packet
unfolding reduce_if shift shifts crc_byte crc_from well_after length_of body_of checksum_right front_agrees length_agrees shapeVerdict
stuffed_well = well protocol2 laws stuffed_packet refl

pub round_trip_applied : RoundTripApplied
unfolding reduce_if shift shifts crc_byte crc_from stuff_after unstuff_after with_checksum packet_of body_of
round_trip_applied t =
    let zeros : List ℕ = replicate 1022 0x00 in
    record {
      well_formed = t.well_formed 1 stuffed_body refl (ltb-true _ _ refl) (leb-true _ _ refl);
      found = t.found 1 stuffed_body (0xFF ∷ []) refl (ltb-true _ _ refl) (leb-true _ _ refl);
      same_id = t.same_id 1 stuffed_body;
      same_body = t.same_body 1 stuffed_body;
      rewritten = t.rewritten stuffed_packet (are_bytes stuffed_packet refl) stuffed_well;
      accepted = t.accepted stuffed_packet stuffed_well;
      longest = t.well_formed 254 zeros refl (ltb-true _ _ refl) (leb-true _ _ refl);
      shortest = t.well_formed 252 (0x00 ∷ []) refl (ltb-true _ _ refl) (leb-true _ _ refl);
      longest_found = t.found 254 zeros (0xFF ∷ []) refl (ltb-true _ _ refl) (leb-true _ _ refl);
    }
