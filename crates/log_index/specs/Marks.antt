-- An index that is made in one pass over the segments: it holds the number of the last segment so far for each ID.
use Rattle.std.specs.Prelude.{List, [], ◌∷◌, ℕ, set}
use Rattle.reading.specs.Reading.{EventAt, packet, bad_checksum}
use Rattle.packet_front.specs.Front.{id_of}
use Rattle.log_index.specs.Last.{mark_of}

-- the index after a segment with these events: the number of each ID that has a packet among them is that of the segment [I5 I8]
unfoldable pub marked : ℕ → List ℕ → List EventAt → List ℕ
marked number index [] = index
marked number index ((p, packet w) ∷ fs) = marked number (set index (mark_of (id_of w)) number) fs
marked number index ((p, bad_checksum id) ∷ fs) = marked number index fs
