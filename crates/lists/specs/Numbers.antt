-- Bytes, and the numbers that they make: lowest byte first.
use Rattle.std.specs.Prelude.{List, [], ◌∷◌, ℕ, zero, suc, ◌+◌, ◌*◌, ◌/◌, ◌%◌, ◌<◌, get_or}

-- every number of the list is a byte, as in every slice
abbrev pub Bytes : List ℕ → Type 0
Bytes s = (i : ℕ) → get_or s i 0 < 256

-- the number that n bytes make from `a` on [T1]
unfoldable pub number_at : List ℕ → ℕ → ℕ → ℕ
number_at s a zero = 0
number_at s a (suc n) = get_or s a 0 + 256 * number_at s (suc a) n

-- the n bytes of a number [T1]
unfoldable pub bytes_of : ℕ → ℕ → List ℕ
bytes_of zero u = []
bytes_of (suc n) u = u % 256 ∷ bytes_of n (u / 256)
