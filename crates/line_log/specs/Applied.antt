-- What is promised of the test and of the question, applied to a log of two Pings and to one with a damaged segment.
use Rattle.std.specs.Prelude.{None}
use Rattle.std.specs.Prelude.{◌≡◌, true, List, ◌⊎◌, ℕ, suc, ◌+◌, ◌≤◌, ◌<◌, replicate, set}
use Rattle.lists.specs.Write.{placed}
use Rattle.log_index.specs.Last.{at, nowhere}
use Rattle.log_layout.specs.Log.{segments_offset, log_of, Sound}
use Rattle.log_layout.specs.Layout.{count_in, entry_of, laid_out}
use Rattle.log_layout.specs.Samples.{two_pings, numbered, file}
use Rattle.line_log.specs.Soundness.{check_refusal, SoundExactly}
use Rattle.line_log.specs.Question.{found, question, index_number_of, LogPromises}

abbrev pub SoundExactlyApplied : Type 0
SoundExactlyApplied =
    SoundExactly
    → (check_refusal (log_of two_pings) ≡ None) × ((segments : List (List ℕ)) × (file ≡ log_of segments))
    -- the index number of 0 is wrong
    × (¬ Sound (numbered 1 1 2))

-- the first segment all 0, and the index numbers of 0 and 1 exchanged
abbrev pub damaged : List ℕ
damaged = placed (numbered 1 0 2) 1048 (replicate 10 0)

abbrev pub LogPromisesApplied : Type 0
LogPromisesApplied =
    LogPromises
    → (question (log_of two_pings) 2 ≡ found (at 1 0)) × (question (log_of two_pings) 254 ≡ found nowhere) × (question file 2 ≡ question damaged 2)

-- a byte behind the index, outside the segment that the index names for the ID
abbrev pub OverwrittenApplied : Type 0
OverwrittenApplied =
    LogPromises → (file : List ℕ) (id offset byte : ℕ) → laid_out file ≡ true → segments_offset (count_in file) ≤ offset
    → ((k : ℕ) → index_number_of file id ≡ suc k → (offset < (entry_of file k).0) ⊎ ((entry_of file k).0 + (entry_of file k).1 ≤ offset))
    → question file id ≡ question (set file offset byte) id
