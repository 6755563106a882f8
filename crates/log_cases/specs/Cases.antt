-- Worked examples of the salvage: a log of two Pings, cut and damaged, and what is reported of it.
use Rattle.std.specs.Prelude.{◌≡◌, true, false, List, [], ◌∷◌, ◌++◌, ℕ, take}
use Rattle.lists.specs.Numbers.{bytes_of}
use Rattle.lists.specs.Write.{placed}
use Rattle.log_layout.specs.Log.{log_of}
use Rattle.log_layout.specs.Samples.{two_pings}
use Rattle.log_salvage.specs.Report.{Report, report_of, empty_report}

-- the log of two Pings, of 1,068 bytes
abbrev pub whole_log : List ℕ
whole_log = log_of two_pings

-- another number in a file's header
abbrev pub numbered : List ℕ → ℕ → ℕ → List ℕ
numbered file offset value = placed file offset (bytes_of 4 value)

-- a file, and the report on it
pub record Case : Type 0 where
  pub file : List ℕ
  pub report : Report

abbrev pub table : List Case
table =
    record { file = whole_log; report = empty_report }
    -- the last byte is cut off
    ∷ record {
      file = take 1067 whole_log;
      report = record { dropped = (1, 2) ∷ []; header_changed = true; index_changed = 1; leftover = 9 };
    }
    -- another offset of the directory
    ∷ record {
      file = numbered whole_log 4 99;
      report = record { dropped = []; header_changed = true; index_changed = 0; leftover = 0 };
    }
    -- 3 segments, and as many as there can be
    ∷ record {
      file = numbered whole_log 0 3;
      report = record { dropped = (0, 1) ∷ (2, 1) ∷ []; header_changed = true; index_changed = 4; leftover = 2 };
    }
    ∷ record {
      file = numbered whole_log 0 0xFFFFFFFF;
      report = record { dropped = (0, 1) ∷ (1, 1) ∷ (2, 1) ∷ (3, 1) ∷ []; header_changed = true; index_changed = 4; leftover = 4 };
    }
    -- no segments, and three bytes behind the index
    ∷ record {
      file = log_of [] ++ 1 ∷ 2 ∷ 3 ∷ [];
      report = record { dropped = []; header_changed = false; index_changed = 0; leftover = 3 };
    }
    ∷ []

abbrev pub Hold : List Case → Type 0
Hold [] = Unit {0}
Hold (c ∷ cs) = (report_of c.file ≡ c.report) × Hold cs

-- each file of the table has its report [I25-I28 X29-X33]
abbrev pub SalvageCases : Type 0
SalvageCases = Hold table
