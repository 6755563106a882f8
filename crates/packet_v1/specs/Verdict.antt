-- The packet rules of Protocol 1.0 and Mercury, by the IDs that are allowed.
use Rattle.std.specs.Prelude.{Bool, cond, ◌&&◌, ◌||◌, List, ℕ, ◌+◌, leb, ltb, eqb, length, get_or}
use Rattle.reading.specs.Rules.{Verdict, is_packet, is_bad_checksum, is_nothing, Rules}
use Rattle.packet_rules.specs.Shape.{so_far, Shape, rules}
use Rattle.packet_v1.specs.Packet.{up_to, last_of_p1, last_of_mercury, id_of, length_of, checksum_right, WellFormed}

-- the length byte, tested when it is there, is 2 to 255 [O3 O6]
unfoldable pub length_agrees : List ℕ → Bool
length_agrees s = ltb (length s) 4 || (leb 2 (length_of s) && leb (length_of s) 255)

-- a packet may begin here: FF is there [O1 O6]
unfoldable pub may_begin : List ℕ → Bool
may_begin s = ltb 0 (length s) && eqb (get_or s 0 0) 0xFF

abbrev pub size_of : List ℕ → ℕ
size_of s = 4 + length_of s

-- all bytes of a packet by header, ID and length, six at least: its checksum decides [O6]
abbrev pub judged : List ℕ → Verdict
judged w = cond (leb 6 (length w)) (cond (checksum_right w) (is_packet (length w)) (is_bad_checksum (id_of w))) is_nothing

module _ (good : ℕ → Bool) where
  -- the bytes that are there agree with header and ID [O6]
  unfoldable pub front_agrees : List ℕ → Bool
  front_agrees s = so_far s 0 (eqb 0xFF) && (so_far s 1 (eqb 0xFF) && so_far s 2 good)

  -- [O1-O6]
  abbrev pub shape_for : Shape
  shape_for =
      record {
        front = 4;
        shortest = 6;
        longest = 259;
        agrees = λ s. front_agrees s && length_agrees s;
        size = size_of;
        judged = judged;
        WellFormed = WellFormed good;
      }

-- of the IDs 0 to `last` and 254
abbrev pub shape_up_to : ℕ → Shape
shape_up_to last = shape_for (up_to last)

-- the rules of Protocol 1.0 and of Mercury [O2]
abbrev pub protocol1 : Rules
protocol1 = rules (shape_up_to last_of_p1)

abbrev pub mercury : Rules
mercury = rules (shape_up_to last_of_mercury)
