-- A feeding call on its way, for code that takes many bytes at once and drops what it is past.
use Rattle.std.specs.Prelude.{◌≡◌, List, [], ◌++◌, ℕ, ◌+◌, ◌≤◌, ◌<◌, length, take, drop}
use Rattle.reading.specs.Rules.{is_packet, is_bad_checksum, is_waiting, Rules}
use Rattle.reading.specs.Reading.{open'}
use Rattle.reading.specs.Calls.{silent, first, CallResult, fed}

-- n bytes were taken before those of the result
abbrev pub after_taking : ℕ → CallResult → CallResult
after_taking n r = record { taken = n + r.taken; answer = r.answer; held = r.held }

-- A feeding call with the chunk s on a reader that holds h has come so far: n bytes are taken, and what it answers and
-- leaves is as if the bytes t had been held and the rest of the chunk were still to come.
pub record Reached (R : Rules) (h s t : List ℕ) (n : ℕ) : Type 0 where
  pub within : n ≤ length s
  pub same : fed R h s ≡ after_taking n (fed R t (drop n s))

-- The bytes t wait for k bytes more: there is room for these, and with fewer of them no event is decided.
pub record Patient (R : Rules) (t : List ℕ) (k : ℕ) : Type 0 where
  pub some : 0 < k
  pub room : length t + k ≤ R.longest
  pub silent_while : (x : List ℕ) → length x < k → (u : List ℕ) × (first R open' (t ++ x) ≡ silent u)

-- For code that looks ahead in a chunk: `settled s` bytes, or those of a shortest packet (`lacks []`) where that is more, settle
-- a verdict on s that does not wait.
pub record Settles (R : Rules) (settled : List ℕ → ℕ) : Type 0 where
  -- they are there, and fewer of them wait
  pub there : (s : List ℕ) → settled s ≤ length s
  pub sooner : (s : List ℕ) (k : ℕ) → k < settled s → R.verdict (take k s) ≡ is_waiting
  -- what does not wait is decided by them, where they are also as many as the shortest packet has
  pub enough : (s : List ℕ) (k : ℕ) → ¬ (R.verdict s ≡ is_waiting) → settled s ≤ k → R.lacks [] ≤ k
      → R.verdict (take k s) ≡ R.verdict s
  pub of_packet : (s : List ℕ) (n : ℕ) → R.verdict s ≡ is_packet n → (settled s ≡ n) × (R.lacks [] ≤ n)
  pub of_bad : (s : List ℕ) (id : ℕ) → R.verdict s ≡ is_bad_checksum id → R.lacks [] ≤ settled s
