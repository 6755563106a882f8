-- What is written of a cut log, and the report on what was altered.
use Rattle.std.specs.Prelude.{Bool, false, not, cond, List, [], ◌∷◌, ℕ, ◌+◌, ◌-◌, eqb, length, take, drop}
use Rattle.reading.specs.Promise.{joined}
use Rattle.log_index.specs.Last.{index_size, index}
use Rattle.log_layout.specs.Log.{index_offset, segments_offset, log_of}
use Rattle.log_layout.specs.Layout.{numbers}
use Rattle.line_log.specs.Soundness.{same_numbers}
use Rattle.log_kept.specs.Kept.{entry_count, Dropped, dropped_in, kept_segments}

-- the kept segments side by side, as they are; header, directory and index are made anew [I24]
abbrev pub salvaged : List ℕ → List ℕ
salvaged file = log_of (kept_segments file)

-- how many numbers are not the same in both lists, one by one [I27]
unfoldable pub differing : List ℕ → List ℕ → ℕ
differing [] ys = 0
differing (x ∷ xs) [] = 0
differing (x ∷ xs) (y ∷ ys) = cond (eqb x y) 0 1 + differing xs ys

-- the old index stands behind the directory, whatever the header says of its offset [I21 I27]
abbrev pub old_index : List ℕ → List ℕ
old_index file = numbers index_size (drop (index_offset (entry_count file)) file)

pub record Report : Type 0 where
  -- number and reason of each dropped entry, in the directory's order [I25]
  pub dropped : List Dropped
  -- [I26]
  pub header_changed : Bool
  -- how many index numbers [I27]
  pub index_changed : ℕ
  -- how many bytes behind the old index lie in no kept segment [I28]
  pub leftover : ℕ

-- [I25-I28]
abbrev pub report_of : List ℕ → Report
report_of file =
    record {
      dropped = dropped_in file;
      header_changed = not (same_numbers (take 16 file) (take 16 (salvaged file)));
      index_changed = differing (old_index file) (index (kept_segments file));
      leftover = length file - segments_offset (entry_count file) - length (joined (kept_segments file));
    }

-- nothing was altered [I29]
abbrev pub empty_report : Report
empty_report = record { dropped = []; header_changed = false; index_changed = 0; leftover = 0 }
