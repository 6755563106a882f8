-- Whether the bytes from an offset on, in an open segment, agree with header, ID and length field.
use Rattle.std.specs.Prelude.{Bool, ◌&&◌, ◌||◌, List, ℕ, ◌+◌, leb, ltb, eqb, length, get_or}
use Rattle.packet_rules.specs.Shape.{so_far}
use Rattle.packet_front.specs.Front.{good_id, length_of}

-- the bytes that are there agree with the header [V8]
abbrev pub header_agrees : List ℕ → Bool
header_agrees s = so_far s 0 (eqb 0xFF) && (so_far s 1 (eqb 0xFF) && (so_far s 2 (eqb 0xFD) && so_far s 3 (eqb 0x00)))

-- and with the ID [V8]
unfoldable pub front_agrees : List ℕ → Bool
front_agrees s = header_agrees s && so_far s 4 good_id

-- the length field is 3 to 1,024, once both its bytes are there [P5 V8 V9]
unfoldable pub length_agrees : List ℕ → Bool
length_agrees s = ltb (length s) 7 || (leb 3 (length_of s) && leb (length_of s) 1024)

-- the byte count of the packet that the length field promises
abbrev pub size_of : List ℕ → ℕ
size_of s = 7 + length_of s

-- all of the header is there [P1]
unfoldable pub headed : List ℕ → Bool
headed s =
    leb 4 (length s) && (eqb 0xFF (get_or s 0 0) && (eqb 0xFF (get_or s 1 0) && (eqb 0xFD (get_or s 2 0) && eqb 0x00 (get_or s 3 0))))

-- a packet may begin here: FF is there, and all of the header where four bytes are [P1 V8]
unfoldable pub may_begin : List ℕ → Bool
may_begin s = ltb 0 (length s) && (eqb 0xFF (get_or s 0 0) && (ltb (length s) 4 || headed s))
