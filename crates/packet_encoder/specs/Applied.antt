-- What is promised of writing and reading back, applied to a packet that is stuffed, and to the longest and the shortest.
use Rattle.std.specs.Prelude.{◌≡◌, true, List, [], ◌∷◌, ◌++◌, ℕ, ◌+◌, ◌≤◌, ◌<◌, length, replicate}
use Rattle.stuffing.specs.Stuffing.{stuff, unstuff}
use Rattle.reading.specs.Rules.{is_packet}
use Rattle.packet_front.specs.Front.{good_id, id_of}
use Rattle.packet.specs.Packet.{body_of, WellFormed}
use Rattle.packet.specs.Verdict.{verdict}
use Rattle.packet_encoder.specs.Writing.{packet_of}
use Rattle.packet_encoder.specs.RoundTrip.{RoundTrip}

-- a Write of FF FF FD 00 at 116
abbrev pub stuffed_body : List ℕ
stuffed_body = 0x03 ∷ 0x74 ∷ 0x00 ∷ 0xFF ∷ 0xFF ∷ 0xFD ∷ 0x00 ∷ []

-- to device 1
abbrev pub stuffed_packet : List ℕ
stuffed_packet =
    0xFF ∷ 0xFF ∷ 0xFD ∷ 0x00 ∷ 0x01 ∷ 0x0A ∷ 0x00
    ∷ 0x03 ∷ 0x74 ∷ 0x00 ∷ 0xFF ∷ 0xFF ∷ 0xFD ∷ 0xFD ∷ 0x00
    ∷ 0x21 ∷ 0xE7 ∷ []

pub record ThereAndBack : Type 0 where
  -- the packet with ID 1 and that body reads as a packet, with ID and body as they were
  pub well_formed : WellFormed stuffed_packet
  pub found : verdict (stuffed_packet ++ 0xFF ∷ []) ≡ is_packet 17
  pub same_id : id_of stuffed_packet ≡ 1
  pub same_body : unstuff (body_of stuffed_packet) ≡ stuffed_body
  -- and is what is written of them
  pub rewritten : packet_of 1 stuffed_body ≡ stuffed_packet
  pub accepted : (good_id 1 ≡ true) × (0 < length stuffed_body) × (length (stuff stuffed_body) + 2 ≤ 1024)
  -- the longest, to all, and the shortest, to the last device
  pub longest : WellFormed (packet_of 254 (replicate 1022 0x00))
  pub shortest : WellFormed (packet_of 252 (0x00 ∷ []))
  pub longest_found : verdict (packet_of 254 (replicate 1022 0x00) ++ 0xFF ∷ []) ≡ is_packet 1031

abbrev pub RoundTripApplied : Type 0
RoundTripApplied = RoundTrip → ThereAndBack
