-- What holds of the checksum of any bytes from any start. Every leaf that computes it promises these laws beside its result.
use Rattle.std.specs.Prelude.{◌≡◌, List, [], ◌∷◌, ◌++◌, ℕ, length}
use Rattle.std.specs.Int.Bits.{bit_xor}
use Rattle.crc.specs.Crc.{crc_from}

-- the checksum of a, carried on over b, is that of a and b side by side, also where one of them has no bytes [C5]
abbrev pub Joined : Type 0
Joined = (start : ℕ) (a b : List ℕ) → crc_from start (a ++ b) ≡ crc_from (crc_from start a) b

-- the bitwise exclusive or of two byte strings, byte by byte; it is used only where they are equally long [C8]
unfoldable pub xor_bytes : List ℕ → List ℕ → List ℕ
xor_bytes [] b = []
xor_bytes (x ∷ a) [] = []
xor_bytes (x ∷ a) (y ∷ b) = bit_xor x y ∷ xor_bytes a b

-- the checksum of the exclusive or is the exclusive or of the checksums, the starting values combined likewise; empty strings included
-- [C8]
abbrev pub Adds : Type 0
Adds =
    (s t : ℕ) (a b : List ℕ) → length a ≡ length b
    → crc_from (bit_xor s t) (xor_bytes a b) ≡ bit_xor (crc_from s a) (crc_from t b)

pub record ChecksumLaws : Type 0 where
  pub joined : Joined
  pub adds : Adds
