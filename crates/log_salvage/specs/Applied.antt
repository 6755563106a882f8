-- What is promised of the salvage, applied to a log of two Pings, whole and without its last byte.
use Rattle.std.specs.Prelude.{None}
use Rattle.std.specs.Prelude.{◌≡◌, List, [], ◌∷◌, ℕ, ◌+◌, ◌≤◌, length, take, replicate}
use Rattle.log_layout.specs.Log.{log_of, Sound}
use Rattle.log_layout.specs.Layout.{segments_in}
use Rattle.log_layout.specs.Samples.{ping_to_1, two_pings, file}
use Rattle.log_kept.specs.Kept.{kept_segments, dropped_in}
use Rattle.log_salvage.specs.Report.{salvaged, report_of, empty_report}
use Rattle.log_salvage.specs.Salvage.{salvage_refusal, salvage_out, Salvage}

-- the last byte is missing
abbrev pub cut_file : List ℕ
cut_file = take 1067 file

abbrev pub output : List ℕ
output = replicate 1068 0xAA

pub record Salvaged : Type 0 where
  pub sound : Sound (take 1050 (salvage_out cut_file output (0 ∷ 0 ∷ 0 ∷ 0 ∷ [])))
  pub shorter : 1050 ≤ 1067
  pub unaltered : segments_in (log_of (ping_to_1 ∷ [])) ≡ ping_to_1 ∷ []
  -- the index is made anew: in the old one ID 2 has a segment
  pub anew : salvaged cut_file ≡ log_of (ping_to_1 ∷ [])
  -- one entry is kept and one dropped; the kept one lies behind the old index, which ends at 1,048, and within the file
  pub each : length (kept_segments cut_file) + length (dropped_in cut_file) ≡ 2
  pub apart : (1048 ≤ 1048) × (1058 ≤ 1067)
  pub left : (report_of cut_file).leftover ≡ 9
  pub accepted : salvage_refusal (log_of two_pings) output (0 ∷ 0 ∷ 0 ∷ 0 ∷ []) ≡ None
  pub same : salvaged (log_of two_pings) ≡ log_of two_pings
  pub nothing_reported : report_of (log_of two_pings) ≡ empty_report
  pub written_again : salvaged (salvaged cut_file) ≡ salvaged cut_file
  pub nothing_reported_again : report_of (salvaged cut_file) ≡ empty_report

abbrev pub SalvageApplied : Type 0
SalvageApplied = Salvage → Salvaged
