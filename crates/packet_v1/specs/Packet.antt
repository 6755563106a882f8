-- One packet of Protocol 1.0 or Mercury, rule by rule: FF FF, ID, length, body, checksum; the length counts the last two.
-- The two differ in the IDs that are allowed. There is no stuffing.
use Rattle.std.specs.Prelude.{◌≡◌, Bool, true, ◌||◌, List, [], ◌∷◌, ℕ, ◌+◌, ◌-◌, ◌%◌, ◌≤◌, leb, eqb, length, take, drop, get_or}

-- [O1]
abbrev pub header : List ℕ
header = 0xFF ∷ 0xFF ∷ []

-- the IDs of devices are 0 to `last`, and 254 is for all devices [O2]
abbrev pub up_to : ℕ → ℕ → Bool
up_to last id = leb id last || eqb id 254

-- the largest ID of a device: Protocol 1.0, and Mercury [O2]
abbrev pub last_of_p1 : ℕ
last_of_p1 = 253

abbrev pub last_of_mercury : ℕ
last_of_mercury = 252

-- [O1]
abbrev pub id_of : List ℕ → ℕ
id_of w = get_or w 2 0

-- how many bytes follow the length byte [O3]
abbrev pub length_of : List ℕ → ℕ
length_of w = get_or w 3 0

-- the body lies between length and checksum: the instruction, or the error of a status, and the parameters [O4]
unfoldable pub body_of : List ℕ → List ℕ
body_of w = take (length w - 5) (drop 4 w)

unfoldable pub sum : List ℕ → ℕ
sum [] = 0
sum (b ∷ s) = b + sum s

-- the low byte of the sum, with each of its bits inverted [O5]
abbrev pub checksum_of : List ℕ → ℕ
checksum_of s = 255 - sum s % 256

-- the checksum covers the bytes from the ID on, up to the checksum itself [O5]
unfoldable pub checksum_right : List ℕ → Bool
checksum_right w = eqb (get_or w (length w - 1) 0) (checksum_of (take (length w - 3) (drop 2 w)))

-- [O1-O5]
pub record WellFormed (good : ℕ → Bool) (w : List ℕ) : Type 0 where
  -- [O1]
  pub headed : take 2 w ≡ header
  -- [O2]
  pub identified : good (id_of w) ≡ true
  -- [O3]
  pub shortest : 2 ≤ length_of w
  -- [O3]
  pub longest : length_of w ≤ 255
  -- [O1 O3]
  pub counted : length w ≡ 4 + length_of w
  -- [O5]
  pub summed : checksum_right w ≡ true
