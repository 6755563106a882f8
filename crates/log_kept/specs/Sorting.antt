-- What the functions answer that judge entries, and the list of the dropped ones in the caller's report.
use Rattle.std.specs.Prelude.{Err, None, Ok, Option, Result, Some}
use Rattle.std.specs.Prelude.{List, [], ◌∷◌, ℕ, ◌/◌, leb, length}
use Rattle.answers.specs.Refusals.{first_failing, unless_refused}
use Rattle.answers.specs.Answers.{answered}
use Rattle.answers.specs.declared.Refusal.{Refusal}
use Rattle.answers.specs.declared.Refusal.TheVariants.{NoRoom}
use Rattle.lists.specs.Write.{overwritten}
use Rattle.reading.specs.Promise.{joined}
use Rattle.log_layout.specs.Log.{LogEntry, numbers_of}
use Rattle.log_layout.specs.Layout.{extent_of, segments_by}
use Rattle.log_kept.specs.Kept.{entry_count, kept_of, dropped_of, dropped_in}
use Rattle.log_layout.specs.declared.Extent.{Extent}
use Rattle.log_kept.specs.declared.Fault.{Fault}
use Rattle.log_kept.specs.declared.Counts.{Counts}

-- an entry as the code judges it [I22 I23]
abbrev pub judged : Option Fault → LogEntry → Result Extent Fault
judged None e = Ok (extent_of e)
judged (Some f) e = Err f

-- how many entries are kept, their bytes, and how many are dropped [I22 I25]
abbrev pub counts : List ℕ → ℕ → Counts
counts file n =
    record { kept = length (kept_of file n); bytes = length (joined (segments_by file (kept_of file n))); dropped = length (dropped_of file n) }

-- a row of the report is two numbers, and each entry needs one [I25 I31]
unfoldable pub sort_refusal : List ℕ → List ℕ → Option Refusal
sort_refusal file report = first_failing ((leb (entry_count file) (length report / 2), NoRoom) ∷ [])

-- [I25]
abbrev pub sort_answer : List ℕ → List ℕ → Result Counts Refusal
sort_answer file report = answered (sort_refusal file report) (counts file (entry_count file))

-- number and reason of each dropped entry, in the directory's order; the rows behind them stay [I25]
abbrev pub sort_report : List ℕ → List ℕ → List ℕ
sort_report file report = unless_refused (sort_refusal file report) report (overwritten report (numbers_of (dropped_in file)))
