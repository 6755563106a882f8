-- The packet of an ID and a body, as it is written: FF FF FD 00, ID, length low and high, stuffed body, checksum low and high.
use Rattle.std.specs.Prelude.{List, [], ◌∷◌, ◌++◌, ℕ, ◌+◌, ◌/◌, ◌%◌, length}
use Rattle.crc.specs.Crc.{crc_from}
use Rattle.stuffing.specs.Stuffing.{stuff}
use Rattle.packet_front.specs.Front.{header}

-- 16-bit numbers go low byte first [P9]
abbrev pub low : ℕ → ℕ
low n = n % 256

-- [P9]
abbrev pub high : ℕ → ℕ
high n = n / 256 % 256

-- header, ID and length field before a stuffed body of n bytes [P1 P4]
abbrev pub front : ℕ → ℕ → List ℕ
front id n = header ++ id ∷ low (n + 2) ∷ high (n + 2) ∷ []

-- [C4 P1 P8]
unfoldable pub with_checksum : List ℕ → List ℕ
with_checksum s = s ++ low (crc_from 0 s) ∷ high (crc_from 0 s) ∷ []

-- the packet with this ID and this body, which is given without stuffing [E2 P1 P6 P7 S2]
unfoldable pub packet_of : ℕ → List ℕ → List ℕ
packet_of id body = with_checksum (front id (length (stuff body)) ++ stuff body)
