-- The call that salvages a log, and what is promised of it over all files.
use Rattle.std.specs.Prelude.{None, Option, Result}
use Rattle.std.specs.Prelude.{◌≡◌, Bool, true, cond, ◌&&◌, ◌||◌, List, [], ◌∷◌, ℕ, zero, suc, ◌+◌, ◌*◌, ◌-◌, ◌/◌, ◌≤◌, leb, ltb, length, take}
use Rattle.answers.specs.Refusals.{first_failing, unless_refused}
use Rattle.answers.specs.Answers.{answered}
use Rattle.answers.specs.declared.Refusal.{Refusal}
use Rattle.answers.specs.declared.Refusal.TheVariants.{NoRoom, BadLogSize}
use Rattle.lists.specs.Write.{overwritten}
use Rattle.log_layout.specs.Log.{LogEntry, numbers_of, segments_offset, longest_file, Sound}
use Rattle.log_layout.specs.Layout.{count_in, segments_in}
use Rattle.log_kept.specs.Kept.{entry_count, kept_of, dropped_in, kept_segments}
use Rattle.log_salvage.specs.Report.{salvaged, Report, report_of, empty_report}
use Rattle.log_salvage.specs.declared.Figures.{Figures}

-- a file of no size that a log may have; an output shorter than the file; a report with fewer rows, of two numbers each, than the
-- segment count: in this order [I31 N4 N10 N18]
unfoldable pub salvage_refusal : List ℕ → List ℕ → List ℕ → Option Refusal
salvage_refusal file out report =
    first_failing
    ((leb 1032 (length file), BadLogSize)
    ∷ (leb (length file) longest_file, BadLogSize)
    ∷ (leb (length file) (length out), NoRoom)
    ∷ (leb (entry_count file) (length report / 2), NoRoom)
    ∷ [])

abbrev pub figures : ℕ → Report → Figures
figures count r =
    record {
      count = count;
      dropped = length r.dropped;
      index = r.index_changed;
      leftover = r.leftover;
      header = r.header_changed;
    }

-- the bytes written and the figures of the report, or a refusal [I24-I28 I31]
abbrev pub salvage_answer : List ℕ → List ℕ → List ℕ → Result Figures Refusal
salvage_answer file out report = answered (salvage_refusal file out report) (figures (length (salvaged file)) (report_of file))

-- what the output holds; its bytes behind the log stay [I24 I31]
abbrev pub salvage_out : List ℕ → List ℕ → List ℕ → List ℕ
salvage_out file out report = unless_refused (salvage_refusal file out report) out (overwritten out (salvaged file))

-- and the report: two numbers for each dropped entry; its rows behind them stay [I25 I31]
abbrev pub salvage_report : List ℕ → List ℕ → List ℕ → List ℕ
salvage_report file out report = unless_refused (salvage_refusal file out report) report (overwritten report (numbers_of (report_of file).dropped))

-- entries one behind the other, none before `limit` and none behind a file of `size` bytes [I22]
abbrev pub Apart : ℕ → ℕ → List LogEntry → Type 0
Apart limit size [] = Unit {0}
Apart limit size (e ∷ es) = (limit ≤ e.0) × (e.0 + e.1 ≤ size) × Apart (e.0 + e.1) size es

-- whether the byte at i lies in no segment of these entries
abbrev pub in_none : ℕ → List LogEntry → Bool
in_none i [] = true
in_none i (e ∷ es) = (ltb i e.0 || leb (e.0 + e.1) i) && in_none i es

-- how many of the n bytes from i on lie in none of them [I28]
unfoldable pub bytes_in_none : ℕ → ℕ → List LogEntry → ℕ
bytes_in_none zero i es = 0
bytes_in_none (suc n) i es = cond (in_none i es) 1 0 + bytes_in_none n (suc i) es

-- What is promised of the call over all files.
pub record Salvage : Type 0 where
  -- where it is not refused, what is written is a sound log, and no longer than the file [I24 I30]
  pub sound : (file out report : List ℕ) → salvage_refusal file out report ≡ None
      → Sound (take (length (salvaged file)) (salvage_out file out report)) × (length (salvaged file) ≤ length file)
  -- its segments are the kept ones, byte for byte as they stand in the file [I24]
  pub unaltered : (file out report : List ℕ) → salvage_refusal file out report ≡ None → segments_in (salvaged file) ≡ kept_segments file
  -- of the entries each is kept or dropped; the kept ones lie in the file behind the old index and do not overlap [I22 I23]
  pub each : (file : List ℕ) → length (kept_segments file) + length (dropped_in file) ≡ entry_count file
  -- [I22]
  pub apart : (file : List ℕ) → Apart (segments_offset (entry_count file)) (length file) (kept_of file (entry_count file))
  -- the bytes behind the old index that lie in no kept segment, counted one by one, are as many as is reported [I28]
  pub left : (file : List ℕ)
      → (report_of file).leftover
      ≡ bytes_in_none (length file - segments_offset (entry_count file)) (segments_offset (entry_count file)) (kept_of file (entry_count file))
  -- a sound log is refused only for want of room; the same bytes are written, and there is nothing to report [I29]
  pub accepted : (file out report : List ℕ) → Sound file → length file ≤ length out → 2 * count_in file ≤ length report
      → salvage_refusal file out report ≡ None
  -- [I29]
  pub same : (file : List ℕ) → Sound file → (salvaged file ≡ file) × (report_of file ≡ empty_report)
  -- and so does whatever was written [I29]
  pub again : (file out report : List ℕ) → salvage_refusal file out report ≡ None
      → (salvaged (salvaged file) ≡ salvaged file) × (report_of (salvaged file) ≡ empty_report)
