-- A packet of which one byte, or two side by side, are changed after the length field and before the checksum.
use Rattle.std.specs.Prelude.{◌≡◌, List, ◌++◌, ℕ, ◌≤◌, length}
use Rattle.lists.specs.Numbers.{Bytes}
use Rattle.reading.specs.Rules.{is_bad_checksum}
use Rattle.packet_front.specs.Front.{id_of}
use Rattle.packet.specs.Packet.{WellFormed}
use Rattle.packet.specs.Verdict.{verdict}

-- d' stands where d stood. They differ, so that they are one byte or two; of two, one may have stayed.
pub record Replaced (a d d' z : List ℕ) : Type 0 where
  pub behind : 7 ≤ length a
  pub before : 2 ≤ length z
  pub few : length d ≤ 2
  pub as_many : length d' ≡ length d
  pub bytes : Bytes d × Bytes d'
  pub changed : ¬ (d' ≡ d)

-- [P11]
pub record BurstDetected : Type 0 where
  -- the changed bytes are not well-formed
  pub refused : (a d d' z : List ℕ) → Replaced a d d' z → WellFormed (a ++ (d ++ z)) → ¬ WellFormed (a ++ (d' ++ z))
  -- and it does not pass as nothing: it is a bad checksum with the packet's ID, whatever follows it
  pub reported : (a d d' z x : List ℕ) → Replaced a d d' z → WellFormed (a ++ (d ++ z))
      → verdict ((a ++ (d' ++ z)) ++ x) ≡ is_bad_checksum (id_of (a ++ (d ++ z)))
