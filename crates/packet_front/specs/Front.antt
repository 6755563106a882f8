-- The front of a packet of Protocol 2.0: header FF FF FD 00, ID, length low and high.
use Rattle.std.specs.Prelude.{Bool, ◌||◌, List, [], ◌∷◌, ℕ, ◌+◌, ◌*◌, leb, eqb, get_or}

-- 16-bit numbers go low byte first [P9]
abbrev pub word : ℕ → ℕ → ℕ
word lo hi = lo + hi * 256

-- [P1]
abbrev pub header : List ℕ
header = 0xFF ∷ 0xFF ∷ 0xFD ∷ 0x00 ∷ []

-- 0 to 252, or 254 for all devices [P2 P3]
abbrev pub good_id : ℕ → Bool
good_id id = leb id 252 || eqb id 254

-- [F9]
abbrev pub id_of : List ℕ → ℕ
id_of w = get_or w 4 0

-- the length field counts the body and the checksum [P4]
unfoldable pub length_of : List ℕ → ℕ
length_of w = word (get_or w 5 0) (get_or w 6 0)
