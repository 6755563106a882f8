-- The reading of a segment, which is the bytes between two gaps, offset by offset.
use Rattle.std.specs.Prelude.{List, [], ◌∷◌, ℕ, zero, suc, ◌+◌, length, take, drop}
use Rattle.reading.specs.Rules.{Verdict, is_packet, is_bad_checksum, is_waiting, is_nothing, Rules}

pub data Event : Type 0 where
  -- a packet, with its bytes as received
  packet : List ℕ → Event
  -- all bytes of a packet, by header, ID and length, with a wrong checksum; and its ID (in the papers: a bad sum)
  bad_checksum : ℕ → Event

-- an event, and the offset where it begins (in the papers: its place) [V7]
abbrev pub EventAt : Type 0
EventAt = ℕ × Event

-- more bytes may follow, or the segment ended with its last byte
pub data Mode : Type 0 where
  open' : Mode
  closed : Mode

-- Offset p, with the bytes s from there on and their verdict: its event, if any, and where reading goes on. A packet is
-- passed as a whole; all else is passed by one byte, a failed packet too. What waits ends the reading of an open segment,
-- and is nothing in a closed one. [V3-V8]
abbrev pub at_offset : Mode → Verdict → ℕ → List ℕ → (ℕ → List ℕ → List EventAt) → List EventAt
at_offset m (is_packet n) p s go = (p, packet (take n s)) ∷ go (p + n) (drop n s)
at_offset m (is_bad_checksum id) p s go = (p, bad_checksum id) ∷ go (p + 1) (drop 1 s)
at_offset m is_nothing p s go = go (p + 1) (drop 1 s)
at_offset closed is_waiting p s go = go (p + 1) (drop 1 s)
at_offset open' is_waiting p s go = []

module _ (R : Rules) where
  -- the events of the bytes s, which begin at offset p; each offset takes a byte at least, so `length s` is fuel enough [V2]
  unfoldable pub read_fuel : Mode → ℕ → ℕ → List ℕ → List EventAt
  read_fuel m zero p s = []
  read_fuel m (suc fuel) p [] = []
  read_fuel m (suc fuel) p (b ∷ s) = at_offset m (R.verdict (b ∷ s)) p (b ∷ s) (λ q t. read_fuel m fuel q t)

  -- [V2]
  unfoldable pub read_from : Mode → ℕ → List ℕ → List EventAt
  unfolding read_fuel
  read_from m p s = read_fuel m (length s) p s

  -- the reading of the bytes s as one segment [V1 V2]
  unfoldable pub reading : List ℕ → List EventAt
  unfolding read_from
  reading s = read_from closed 0 s
