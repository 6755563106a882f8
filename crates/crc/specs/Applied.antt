-- What is promised of checksums, applied.
use Rattle.std.specs.Prelude.{◌≡◌, [], ◌∷◌}
use Rattle.std.specs.Int.Bits.{bit_xor}
use Rattle.crc.specs.Crc.{crc_from}
use Rattle.crc.specs.Laws.{ChecksumLaws}
use Rattle.crc.specs.Flips.{flipped_checksum, FlippedChecksum}

-- of 1 2 3 4 from that of 1 2, which is 040E; of 1 2 from those of 5 8 and 4 10; and of no bytes
abbrev pub ChecksumLawsApplied : Type 0
ChecksumLawsApplied =
    ChecksumLaws
    → (crc_from 0x00FF (1 ∷ 2 ∷ 3 ∷ 4 ∷ []) ≡ crc_from 0x040E (3 ∷ 4 ∷ []))
    × (crc_from 0x0FF0 (1 ∷ 2 ∷ []) ≡ bit_xor (crc_from 0x00FF (5 ∷ 8 ∷ [])) (crc_from 0x0F0F (4 ∷ 10 ∷ [])))
    × (crc_from 0x00FF [] ≡ 0x00FF)
    × (crc_from 0x0FF0 [] ≡ 0x0FF0)

-- of 1 2 3 from that of 1 7 3: the bits 5 are flipped, and one byte follows; of no bytes, none of which is flipped
abbrev pub FlippedApplied : Type 0
FlippedApplied =
    FlippedChecksum
    → (flipped_checksum (crc_from 0x00FF (1 ∷ 7 ∷ 3 ∷ [])) (5 ∷ []) 1 ≡ crc_from 0x00FF (1 ∷ 2 ∷ 3 ∷ []))
    × (flipped_checksum 0x00FF [] 0 ≡ 0x00FF)
