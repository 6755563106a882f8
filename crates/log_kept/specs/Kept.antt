-- Which entries of a cut log's directory are kept, and for what the others are dropped.
use Rattle.std.specs.Prelude.{None, Option, Some}
use Rattle.std.specs.Prelude.{List, [], ◌∷◌, ℕ, suc, ◌+◌, ◌-◌, ◌/◌, min, leb, length, drop}
use Rattle.answers.specs.Refusals.{first_failing}
use Rattle.log_layout.specs.Log.{LogEntry, directory_offset, segments_offset}
use Rattle.log_layout.specs.Layout.{count_in, entries, segments_by}
use Rattle.log_kept.specs.declared.Fault.{Fault}
use Rattle.log_kept.specs.declared.Fault.TheVariants.{BadStart, BadEnd}

-- the segment count: the smaller of the header's and of what the file has room for [I21]
abbrev pub entry_count : List ℕ → ℕ
entry_count file = min (count_in file) ((length file - 1032) / 8)

-- what an entry is dropped for: it starts before `limit`; it ends behind a file of `size` bytes; in this order [I22 I23]
abbrev pub fault : ℕ → ℕ → LogEntry → Option Fault
fault size limit e = first_failing ((leb limit e.0, BadStart) ∷ (leb (e.0 + e.1) size, BadEnd) ∷ [])

-- as the report has it [I23]
abbrev pub reason : Fault → ℕ
reason BadStart = 1
reason BadEnd = 2

-- where the next one may start: at the end of a kept entry; a dropped one does not move it [I22]
abbrev pub limit_after : Option Fault → ℕ → LogEntry → ℕ
limit_after None limit e = e.0 + e.1
limit_after (Some f) limit e = limit

abbrev pub keeping : Option Fault → LogEntry → List LogEntry → List LogEntry
keeping None e es = e ∷ es
keeping (Some f) e es = es

-- the entries that are kept [I22]
unfoldable pub kept : ℕ → ℕ → List LogEntry → List LogEntry
kept size limit [] = []
kept size limit (e ∷ es) = keeping (fault size limit e) e (kept size (limit_after (fault size limit e) limit e) es)

-- number and reason of a dropped entry
abbrev pub Dropped : Type 0
Dropped = ℕ × ℕ

abbrev pub dropping : Option Fault → ℕ → List Dropped → List Dropped
dropping None i ds = ds
dropping (Some f) i ds = (i, reason f) ∷ ds

-- the entries that are dropped, the first of them all being number i [I23]
unfoldable pub dropped : ℕ → ℕ → ℕ → List LogEntry → List Dropped
dropped size limit i [] = []
dropped size limit i (e ∷ es) =
    dropping (fault size limit e) i (dropped size (limit_after (fault size limit e) limit e) (suc i) es)

-- of a file with n entries, whose index ends where segments may start [I21-I23]
abbrev pub kept_of : List ℕ → ℕ → List LogEntry
kept_of file n = kept (length file) (segments_offset n) (entries n (drop directory_offset file))

abbrev pub dropped_of : List ℕ → ℕ → List Dropped
dropped_of file n = dropped (length file) (segments_offset n) 0 (entries n (drop directory_offset file))

-- the segments that are kept, with the bytes that they have in the file [I24]
abbrev pub kept_segments : List ℕ → List (List ℕ)
kept_segments file = segments_by file (kept_of file (entry_count file))

-- [I25]
abbrev pub dropped_in : List ℕ → List Dropped
dropped_in file = dropped_of file (entry_count file)
