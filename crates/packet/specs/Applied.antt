-- What is promised of a damaged packet, applied to a status and to the longest packet.
use Rattle.std.specs.Prelude.{◌≡◌, List, [], ◌∷◌, ◌++◌, ℕ, replicate}
use Rattle.reading.specs.Rules.{is_bad_checksum}
use Rattle.packet.specs.Packet.{WellFormed}
use Rattle.packet.specs.Verdict.{verdict}
use Rattle.packet.specs.Burst.{BurstDetected}

-- the status FF FF FD 00 01 04 00 | 55 00 | A1 0C with another body
abbrev pub changed_to : ℕ → ℕ → List ℕ
changed_to b c = 0xFF ∷ 0xFF ∷ 0xFD ∷ 0x00 ∷ 0x01 ∷ 0x04 ∷ 0x00 ∷ b ∷ c ∷ 0xA1 ∷ 0x0C ∷ []

-- the longest packet, 1,031 bytes, to all; its body is 1,022 bytes 55, of which the first and the last are now others
abbrev pub long_with : ℕ → ℕ → List ℕ
long_with b c = 0xFF ∷ 0xFF ∷ 0xFD ∷ 0x00 ∷ 0xFE ∷ 0x00 ∷ 0x04 ∷ b ∷ (replicate 1020 0x55 ++ (c ∷ 0x03 ∷ 0xF8 ∷ []))

abbrev pub Detected : List ℕ → ℕ → Type 0
Detected changed id = (¬ WellFormed changed) × (verdict (changed ++ 0xFF ∷ []) ≡ is_bad_checksum id)

-- the first body byte, the last, both; and of the longest packet the first and the last
abbrev pub BurstApplied : Type 0
BurstApplied =
    BurstDetected
    → Detected (changed_to 0x54 0x00) 1
    × Detected (changed_to 0x55 0xFF) 1
    × Detected (changed_to 0xAA 0x01) 1
    × Detected (long_with 0xAA 0x55) 254
    × Detected (long_with 0x55 0xAA) 254
