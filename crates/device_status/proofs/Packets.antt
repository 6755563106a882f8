-- The packet of a status: well-formed, with the ID of the reply, and short.
use mathlib.Core.Path.{◌≡◌, refl}
use mathlib.Core.Bool.{false}
use Prim.Native.Nat.{◌≤◌}
use native.Mathlib.Omega.{arith}
use lib.Dec.{eqb}
use lib.ListN.{length, take, length-take}
use borrow.Author.Tests.{le-leb}
use Rattle.stuffing.specs.Stuffing.{marks, marks_after}
use Rattle.stuffing.proofs.Laws.{length_stuff, marks_within}
use Rattle.packet_front.specs.Front.{id_of}
use Rattle.packet.specs.Packet.{WellFormed}
use Rattle.packet_encoder.proofs.Writing.{packet_length}
use Rattle.packet_encoder.proofs.RoundTrip.{round_trip}
use Rattle.device_status.specs.declared.Reply.{Reply}
use Rattle.device_status.specs.Status.{status_body, status_packet}
use Rattle.device_status.proofs.Sending.{body_stuffed}

module _ (r : Reply) where
  pub status_id : id_of (status_packet r) ≡ r.id
  status_id = round_trip.same_id r.id (status_body r)

  module _ (short : r.count ≤ 8) where
    pub status_formed : r.id ≤ 252 → WellFormed (status_packet r)
    status_formed known =
        round_trip.well_formed r.id (status_body r) (rw (le-leb r.id 252 known)) (omega arith) (omega (arith, body_stuffed r short))

    -- FF FF FD can begin in the data only, where the error byte is not FF
    body_marks : marks (status_body r) ≡ marks_after 0x55 r.error (take r.count r.bytes)
    unfolding marks_after
    body_marks = refl

    pub status_length : eqb r.error 0xFF ≡ false → length (status_packet r) ≤ 21
    status_length other =
        let m = (marks_within 0x55 r.error (take r.count r.bytes)).after_none other in
        let l : length (take r.count r.bytes) ≤ 8 = simp length-take (omega arith) in
        omega (arith, body_marks, length_stuff (status_body r), packet_length r.id (status_body r))
