-- One packet of Protocol 2.0, rule by rule: FF FF FD 00, ID, length low and high, body, checksum low and high.
use Rattle.std.specs.Prelude.{◌≡◌, Bool, true, List, ℕ, ◌+◌, ◌-◌, ◌≤◌, eqb, length, take, drop, get_or}
use Rattle.crc.specs.Crc.{crc_from}
use Rattle.stuffing.specs.Stuffing.{well_stuffed}
use Rattle.packet_front.specs.Front.{word, header, good_id, id_of, length_of}

-- the body lies between the length field and the checksum [D38 P6 S2 S4 S7]
unfoldable pub body_of : List ℕ → List ℕ
body_of w = take (length w - 9) (drop 7 w)

-- the checksum covers everything before it, the header included [C4 P7 P8]
unfoldable pub checksum_right : List ℕ → Bool
checksum_right w = eqb (crc_from 0 (take (length w - 2) w)) (word (get_or w (length w - 2) 0) (get_or w (length w - 1) 0))

-- [P1 P2 P4 P5 P10]
pub record WellFormed (w : List ℕ) : Type 0 where
  -- [P1]
  pub headed : take 4 w ≡ header
  -- [P2]
  pub identified : good_id (id_of w) ≡ true
  -- [P5]
  pub shortest : 3 ≤ length_of w
  -- [P5]
  pub longest : length_of w ≤ 1024
  -- [P1 P4]
  pub counted : length w ≡ 7 + length_of w
  pub summed : checksum_right w ≡ true
  pub stuffed : well_stuffed (body_of w) ≡ true
