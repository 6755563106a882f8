-- What is written reads back as itself, and each well-formed packet is what would have been written.
use Rattle.std.specs.Prelude.{◌≡◌, true, List, ◌++◌, ℕ, ◌+◌, ◌≤◌, ◌<◌, length}
use Rattle.lists.specs.Numbers.{Bytes}
use Rattle.stuffing.specs.Stuffing.{stuff, unstuff}
use Rattle.reading.specs.Rules.{is_packet}
use Rattle.packet_front.specs.Front.{good_id, id_of}
use Rattle.packet.specs.Packet.{body_of, WellFormed}
use Rattle.packet.specs.Verdict.{verdict}
use Rattle.packet_encoder.specs.Writing.{packet_of}

-- [E2]
pub record RoundTrip : Type 0 where
  -- for a good ID and a body, not empty, that fits
  pub well_formed : (id : ℕ) (body : List ℕ) → good_id id ≡ true → 0 < length body → length (stuff body) + 2 ≤ 1024
      → WellFormed (packet_of id body)
  -- it is read as a packet, whatever follows it
  pub found : (id : ℕ) (body x : List ℕ) → good_id id ≡ true → 0 < length body → length (stuff body) + 2 ≤ 1024
      → verdict (packet_of id body ++ x) ≡ is_packet (length (packet_of id body))
  pub same_id : (id : ℕ) (body : List ℕ) → id_of (packet_of id body) ≡ id
  pub same_body : (id : ℕ) (body : List ℕ) → unstuff (body_of (packet_of id body)) ≡ body
  -- for each packet that keeps the rules
  pub rewritten : (w : List ℕ) → Bytes w → WellFormed w → packet_of (id_of w) (unstuff (body_of w)) ≡ w
  -- and the encoder takes its parts: the ID is good, the body has an instruction, and the length fits
  pub accepted : (w : List ℕ) → WellFormed w
      → (good_id (id_of w) ≡ true) × (0 < length (unstuff (body_of w))) × (length (stuff (unstuff (body_of w))) + 2 ≤ 1024)
