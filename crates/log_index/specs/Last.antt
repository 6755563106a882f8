-- The last packet for an ID: in a segment, in a list of segments, and by the index of a log.
use Rattle.std.specs.Prelude.{None, Option, Some}
use Rattle.std.specs.Prelude.{cond, List, [], ◌∷◌, ℕ, zero, suc, ◌+◌, ltb, eqb}
use Rattle.reading.specs.Reading.{EventAt, packet, bad_checksum, reading}
use Rattle.packet_front.specs.Front.{id_of}
use Rattle.packet.specs.Verdict.{protocol2}

-- the later of two offsets, where the first is that of later events
abbrev pub later : Option ℕ → Option ℕ → Option ℕ
later None p = p
later (Some q) p = Some q

-- the offset of the last packet with this ID among the events of a reading; a bad checksum is no packet [I6 I8]
unfoldable pub last_packet : ℕ → List EventAt → Option ℕ
last_packet id [] = None
last_packet id ((p, packet w) ∷ fs) = later (last_packet id fs) (cond (eqb (id_of w) id) (Some p) None)
last_packet id ((p, bad_checksum x) ∷ fs) = last_packet id fs

-- in a segment [I6]
abbrev pub last_in : ℕ → List ℕ → Option ℕ
last_in id segment = last_packet id (reading protocol2 segment)

-- where the last packet for an ID stands
pub data Last : Type 0 where
  -- number of the segment, from 0, and offset in it
  at : ℕ → ℕ → Last
  nowhere : Last

-- in segment k, where none stands in a later one [I7]
abbrev pub or_in : Last → ℕ → Option ℕ → Last
or_in (at j p) k found = at j p
or_in nowhere k (Some p) = at k p
or_in nowhere k None = nowhere

-- in segments that are numbered from k on [I7]
unfoldable pub last_from : ℕ → ℕ → List (List ℕ) → Last
last_from id k [] = nowhere
last_from id k (s ∷ ss) = or_in (last_from id (suc k) ss) k (last_in id s)

-- as all segments are read: where a packet with the ID stands last, in the last of them that has one [I7 I19]
abbrev pub last_of : ℕ → List (List ℕ) → Last
last_of id segments = last_from id 0 segments

-- the index number: 0 for none, or 1 plus the number of the segment [I5]
abbrev pub index_number : Last → ℕ
index_number (at k p) = k + 1
index_number nowhere = 0

-- the index has one number for each ID 0 to 252, and then that of 254 [I5]
abbrev pub index_size : ℕ
index_size = 254

-- the ID of an index number, by its position in the index, and the position of an ID [I5]
abbrev pub id_at : ℕ → ℕ
id_at i = cond (ltb i 253) i 254

abbrev pub mark_of : ℕ → ℕ
mark_of id = cond (ltb id 253) id 253

-- k index numbers, from position i on [I5]
unfoldable pub index_from : ℕ → ℕ → List (List ℕ) → List ℕ
index_from zero i segments = []
index_from (suc k) i segments = index_number (last_of (id_at i) segments) ∷ index_from k (suc i) segments

-- [I5]
abbrev pub index : List (List ℕ) → List ℕ
index segments = index_from index_size 0 segments
