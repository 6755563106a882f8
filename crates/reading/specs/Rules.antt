-- The packet rules that a reader goes by, of whatever protocol, and the laws that the reading asks of them.
use Rattle.std.specs.Prelude.{◌≡◌, List, ◌++◌, ◌⊎◌, ℕ, ◌+◌, ◌≤◌, ◌<◌, length, take}

-- what the bytes from an offset on are, while the segment is open
pub data Verdict : Type 0 where
  -- a well-formed packet of so many bytes
  is_packet : ℕ → Verdict
  -- all bytes of a packet, by header, ID and length, with a wrong checksum; and its ID (in the papers: a bad sum)
  is_bad_checksum : ℕ → Verdict
  -- a beginning: as far as it goes it agrees with a packet, and not all bytes are there
  is_waiting : Verdict
  -- none of these
  is_nothing : Verdict

-- no event is decided at such an offset
abbrev pub Undecided : Verdict → Type 0
Undecided v = (v ≡ is_waiting) ⊎ (v ≡ is_nothing)

pub record Rules : Type 1 where
  -- the byte count of the longest packet
  pub longest : ℕ
  pub verdict : List ℕ → Verdict
  -- how many bytes a waiting offset surely lacks
  pub lacks : List ℕ → ℕ
  pub WellFormed : List ℕ → Type 0

pub record Laws (R : Rules) : Type 0 where
  -- what is decided stays so, whatever follows
  pub stays : (s x : List ℕ) → ¬ (R.verdict s ≡ is_waiting) → R.verdict (s ++ x) ≡ R.verdict s
  -- a packet is there, is not empty, and is well-formed
  pub sound : (s : List ℕ) (n : ℕ) → R.verdict s ≡ is_packet n → (0 < n) × (n ≤ length s) × R.WellFormed (take n s)
  -- a well-formed packet is found, whatever follows it
  pub whole : (w x : List ℕ) → R.WellFormed w → R.verdict (w ++ x) ≡ is_packet (length w)
  -- its beginning, not all of it, waits
  pub partial_waits : (a b : List ℕ) → R.WellFormed (a ++ b) → 0 < length b → R.verdict a ≡ is_waiting
  -- what waits lacks some bytes, and no more than the longest packet has
  pub lacking : (s : List ℕ) → R.verdict s ≡ is_waiting → 0 < R.lacks s
  pub room : (s : List ℕ) → R.verdict s ≡ is_waiting → length s + R.lacks s ≤ R.longest
  -- while fewer bytes have come than it lacks, it still waits, or neither it nor any later offset decides an event
  pub patient : (s x : List ℕ) → R.verdict s ≡ is_waiting → length x < R.lacks s
      → (R.verdict (s ++ x) ≡ is_waiting) ⊎ ((t u : List ℕ) → s ++ x ≡ t ++ u → Undecided (R.verdict u))
