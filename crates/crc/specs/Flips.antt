-- The checksum after chosen bits were flipped, from the checksum before, without a pass over the other bytes.
use Rattle.std.specs.Prelude.{◌≡◌, List, ◌++◌, ℕ, length, replicate}
use Rattle.std.specs.Int.Bits.{bit_xor}
use Rattle.crc.specs.Crc.{crc_from}
use Rattle.crc.specs.Laws.{xor_bytes}

-- `flips` has a 1 for each flipped bit, and `after` bytes follow those that it covers [C9]
abbrev pub flipped_checksum : ℕ → List ℕ → ℕ → ℕ
flipped_checksum crc flips after = bit_xor crc (crc_from 0 (flips ++ replicate after 0))

-- from the checksum of a, b, c to that of a, b with the flips, c, from any start [C9]
abbrev pub FlippedChecksum : Type 0
FlippedChecksum =
    (start : ℕ) (a b c flips : List ℕ) → length b ≡ length flips
    → flipped_checksum (crc_from start (a ++ (b ++ c))) flips (length c) ≡ crc_from start (a ++ (xor_bytes b flips ++ c))
