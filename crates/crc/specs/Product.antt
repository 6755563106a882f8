-- The product of two registers, as polynomials modulo that of the checksum.
use Rattle.std.specs.Prelude.{ℕ, zero, suc, ◌*◌, ◌/◌, ◌%◌}
use Rattle.std.specs.Int.Bits.{bit_xor}
use Rattle.crc.specs.Crc.{shift}

-- by the n low bits of b, the lowest first: where bit i is 1, a shifted i times is added
unfoldable pub product : ℕ → ℕ → ℕ → ℕ
product zero a b = 0
product (suc n) a b = bit_xor (b % 2 * a) (product n (shift a) (b / 2))
