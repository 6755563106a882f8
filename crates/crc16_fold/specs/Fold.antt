-- The register as two numbers. The polynomial of the checksum is (x + 1) * (x^15 + x + 1), and a register is known by what it is
-- modulo each factor: by any number u that is the same modulo the second one, and by the parity of the bits of a number p, which
-- is what p is modulo the first.
use Rattle.std.specs.Prelude.{◌≡◌, List, ℕ}
use Rattle.std.specs.Int.Bits.{bit_xor}
use Rattle.crc.specs.Crc.{shifts, crc_from}
use Rattle.crc.specs.Product.{product}

-- 0x8002 is 1 modulo x^15 + x + 1 and 0 modulo x + 1
unfoldable pub number_part : ℕ → ℕ
number_part u = product 64 0x8002 u

-- 0x8003 is 0 modulo x^15 + x + 1 and 1 modulo x + 1
unfoldable pub parity_part : ℕ → ℕ
parity_part p = product 64 0x8003 p

-- the register that the two stand for [C11]
unfoldable pub register_of : ℕ → ℕ → ℕ
register_of u p = bit_xor (number_part u) (parity_part p)

-- bytes as one number, the first one highest: shifted by 16 bits it leaves their checksum [C11]
abbrev pub Makes : List ℕ → ℕ → Type 0
Makes bytes w = shifts 16 (product 64 1 w) ≡ crc_from 0 bytes

-- a part after k bits more, those of w [C11]
abbrev pub more : ℕ → ℕ → ℕ → ℕ
more k part w = bit_xor (shifts k part) (shifts 16 w)
