-- What is written reads back as itself, and each well-formed packet is what would have been written.
use Rattle.std.specs.Prelude.{◌≡◌, Bool, true, List, ◌++◌, ℕ, ◌+◌, ◌≤◌, ◌<◌, length}
use Rattle.reading.specs.Rules.{is_packet}
use Rattle.packet_rules.specs.Shape.{verdict}
use Rattle.packet_v1.specs.Packet.{id_of, body_of, WellFormed}
use Rattle.packet_v1.specs.Verdict.{shape_for}
use Rattle.packet_encoder_v1.specs.Writing.{packet_of}

-- [O11]
pub record RoundTrip (good : ℕ → Bool) : Type 0 where
  -- for a good ID and a body, not empty, that fits
  pub well_formed : (id : ℕ) (body : List ℕ) → good id ≡ true → 0 < length body → length body + 1 ≤ 255
      → WellFormed good (packet_of id body)
  -- it is read as a packet, whatever follows it
  pub found : (id : ℕ) (body x : List ℕ) → good id ≡ true → 0 < length body → length body + 1 ≤ 255
      → verdict (shape_for good) (packet_of id body ++ x) ≡ is_packet (length (packet_of id body))
  pub same_id : (id : ℕ) (body : List ℕ) → id_of (packet_of id body) ≡ id
  pub same_body : (id : ℕ) (body : List ℕ) → body_of (packet_of id body) ≡ body
  -- for each packet that keeps the rules
  pub rewritten : (w : List ℕ) → WellFormed good w → packet_of (id_of w) (body_of w) ≡ w
  -- and the encoder takes its parts: the ID is good, the body has an instruction, and the length fits
  pub accepted : (w : List ℕ) → WellFormed good w
      → (good (id_of w) ≡ true) × (0 < length (body_of w)) × (length (body_of w) + 1 ≤ 255)
