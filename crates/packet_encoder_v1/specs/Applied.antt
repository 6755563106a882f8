-- What is promised of writing and reading back, applied to the published Read, in both protocols.
use Rattle.std.specs.Prelude.{◌≡◌, true, List, [], ◌∷◌, ◌++◌, ℕ, ◌+◌, ◌≤◌, ◌<◌, replicate}
use Rattle.reading.specs.Rules.{is_packet}
use Rattle.packet_rules.specs.Shape.{verdict}
use Rattle.packet_v1.specs.Packet.{up_to, last_of_p1, last_of_mercury, WellFormed, id_of, body_of}
use Rattle.packet_v1.specs.Verdict.{shape_up_to}
use Rattle.packet_encoder_v1.specs.Writing.{packet_of}
use Rattle.packet_encoder_v1.specs.RoundTrip.{RoundTrip}

-- Read of one byte at 43 from device 1
abbrev pub read_to_1 : List ℕ
read_to_1 = 0xFF ∷ 0xFF ∷ 0x01 ∷ 0x04 ∷ 0x02 ∷ 0x2B ∷ 0x01 ∷ 0xCC ∷ []

-- where the IDs of devices end with `last`
pub record ThereAndBack (last : ℕ) : Type 0 where
  pub well_formed : WellFormed (up_to last) read_to_1
  pub found : verdict (shape_up_to last) (read_to_1 ++ 0xFF ∷ []) ≡ is_packet 8
  pub same_id : id_of read_to_1 ≡ 1
  pub same_body : body_of read_to_1 ≡ 0x02 ∷ 0x2B ∷ 0x01 ∷ []
  pub rewritten : packet_of 1 (0x02 ∷ 0x2B ∷ 0x01 ∷ []) ≡ read_to_1
  pub accepted : (up_to last 1 ≡ true) × (0 < 3) × (3 + 1 ≤ 255)
  -- the longest, to all, and the shortest, to the last device
  pub longest : WellFormed (up_to last) (packet_of 254 (replicate 254 0x00))
  pub shortest : WellFormed (up_to last) (packet_of last (0x00 ∷ []))

abbrev pub RoundTripApplied : Type 0
RoundTripApplied = (RoundTrip (up_to last_of_p1) → ThereAndBack last_of_p1) × (RoundTrip (up_to last_of_mercury) → ThereAndBack last_of_mercury)
