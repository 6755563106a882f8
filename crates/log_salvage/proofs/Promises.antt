-- What is written is sound and no longer than the file; a sound log comes out as it was, with an empty report.
use Rattle.std.specs.Prelude.{None, Option, Some}
use mathlib.Core.Path.{◌≡◌, refl, sym, ap, ap₂, subst, ◌∙◌}
use mathlib.Core.Bool.{false, not}
use mathlib.Core.List.{List, [], ◌∷◌}
use Prim.Native.Nat.{ℕ, ◌+◌, ◌-◌, ◌≤◌}
use native.Mathlib.Omega.{arith}
use lib.ListN.{length, take, drop}
use borrow.Author.Tests.{eq-eqb}
use Rattle.lists.proofs.Write.{overwritten_take}
use Rattle.reading.specs.Promise.{joined}
use Rattle.log_index.specs.Last.{index_size, index}
use Rattle.log_layout.specs.Log.{LogEntry, directory, directory_offset, index_offset, segments_offset, log_of, longest_file, Sound}
use Rattle.log_layout.specs.Layout.{entries, numbers, segments_by, directory_in}
use Rattle.log_layout.proofs.Sound.{log_length, count_log, directory_log, index_log, segments_log, segments_count}
use Rattle.line_log.specs.Soundness.{same_numbers}
use Rattle.line_log.proofs.Rounds.{same_self}
use Rattle.log_kept.specs.Kept.{entry_count, fault, kept, dropped, kept_of, dropped_in, kept_segments}
use Rattle.log_kept.specs.declared.Fault.{Fault}
use Rattle.log_kept.proofs.Kept.{fault_none, kept_here, kept_not, all_kept}
use Rattle.log_kept.proofs.Rounds.{counts_of}
use Rattle.log_salvage.specs.Report.{salvaged, differing, report_of, empty_report}
use Rattle.log_salvage.specs.Salvage.{salvage_refusal, salvage_out, Apart, Salvage}
use Rattle.log_salvage.proofs.Answer.{no_longer, sized, passes}
use Rattle.log_salvage.proofs.LeftOver.{left_over}

-- the kept entries do not overlap
kept_apart : (size limit : ℕ) (es : List LogEntry) → Apart limit size (kept size limit es)
unfolding kept
kept_apart size limit [] = tt
kept_apart size limit (e ∷ es) = by_fault (λ l. kept_apart size l es) (fault size limit e) refl
  where
    by_fault : ((l : ℕ) → Apart l size (kept size l es)) → (o : Option Fault) → fault size limit e ≡ o → Apart limit size (kept size limit (e ∷ es))
    by_fault rest None f =
        let w = fault_none size limit e f in
        subst (Apart limit size) (sym (kept_here size limit e es 0 f)) (w.0, w.1, rest (e.0 + e.1))
    by_fault rest (Some r) f = subst (Apart limit size) (sym (kept_not size limit e es 0 r f)) (rest limit)

apart_in : (file : List ℕ) → Apart (segments_offset (entry_count file)) (length file) (kept_of file (entry_count file))
apart_in file = kept_apart (length file) (segments_offset (entry_count file)) (entries (entry_count file) (drop directory_offset file))

-- numbers that are the same do not differ
none_differ : (xs : List ℕ) → differing xs xs ≡ 0
unfolding differing
none_differ [] = refl
none_differ (x ∷ xs) = rw (eq-eqb x x refl, none_differ xs)

-- ---- a log of segments

module _ (ss : List (List ℕ)) (fits : length (log_of ss) ≤ longest_file) where
  abbrev log : List ℕ
  log = log_of ss

  abbrev n : ℕ
  n = length ss

  long : length log ≡ segments_offset n + length (joined ss)
  long = log_length ss

  count_is : entry_count log ≡ n
  count_is = omega (arith, long, count_log ss fits)

  entries_are : entries (entry_count log) (drop directory_offset log) ≡ directory (segments_offset n) ss
  entries_are = ap (λ (k : ℕ). entries k (drop directory_offset log)) (count_is ∙ sym (count_log ss fits)) ∙ directory_log ss fits

  all : (kept (length log) (segments_offset n) (directory (segments_offset n) ss) ≡ directory (segments_offset n) ss)
      × (dropped (length log) (segments_offset n) 0 (directory (segments_offset n) ss) ≡ [])
  all = all_kept (length log) (segments_offset n) 0 ss (omega (arith, long))

  kept_are : kept_of log (entry_count log) ≡ directory_in log
  kept_are =
      ap₂ (λ (k : ℕ) (es : List LogEntry). kept (length log) (segments_offset k) es) count_is entries_are
      ∙ all.0 ∙ sym (directory_log ss fits)

  none_dropped : dropped_in log ≡ []
  none_dropped = ap₂ (λ (k : ℕ) (es : List LogEntry). dropped (length log) (segments_offset k) 0 es) count_is entries_are ∙ all.1

  segments_are : kept_segments log ≡ ss
  segments_are = ap (segments_by log) kept_are ∙ segments_log ss fits

  pub comes_out : salvaged log ≡ log
  comes_out = ap log_of segments_are

  pub nothing_altered : report_of log ≡ empty_report
  nothing_altered =
      let h : not (same_numbers (take 16 log) (take 16 (salvaged log))) ≡ false =
      ap (λ (s : List ℕ). not (same_numbers (take 16 log) (take 16 s))) comes_out ∙ ap not (same_self (take 16 log)) in
      let i : differing (numbers index_size (drop (index_offset (entry_count log)) log)) (index (kept_segments log)) ≡ 0 =
      ap₂ differing
      (ap (λ (k : ℕ). numbers index_size (drop (index_offset k) log)) (count_is ∙ sym (count_log ss fits)) ∙ index_log ss fits)
      (ap index segments_are)
      ∙ none_differ (index ss) in
      let l : length log - segments_offset (entry_count log) - length (joined (kept_segments log)) ≡ 0 =
      ap₂ (λ (k : ℕ) (x : List (List ℕ)). length log - segments_offset k - length (joined x)) count_is segments_are ∙ omega (arith, long) in
      rw (none_dropped, h, i, l)

module _ (file : List ℕ) (s : Sound file) where
  abbrev ss : List (List ℕ)
  ss = s.segments

  log_fits : length (log_of ss) ≤ longest_file
  log_fits = omega (arith, s.fits, ap length s.are)

  sound_same : (salvaged file ≡ file) × (report_of file ≡ empty_report)
  sound_same =
      subst (λ (f : List ℕ). (salvaged f ≡ f) × (report_of f ≡ empty_report)) (sym s.are) (comes_out ss log_fits, nothing_altered ss log_fits)

  sound_long : 1032 ≤ length file
  sound_long = omega (arith, ap length s.are, log_length ss)

-- ---- what is written

module _ (file out report : List ℕ) (r : salvage_refusal file out report ≡ None) where
  short : length (salvaged file) ≤ length file
  short = no_longer file (sized file out report r).0

  salvaged_fits : length (salvaged file) ≤ longest_file
  salvaged_fits = omega (arith, short, (sized file out report r).1)

  written_sound : Sound (take (length (salvaged file)) (salvage_out file out report))
  written_sound =
      let e : take (length (salvaged file)) (salvage_out file out report) ≡ salvaged file = rw r (overwritten_take out (salvaged file)) in
      record {
        fits = rw e salvaged_fits;
        segments = kept_segments file;
        are = e;
      }

pub salvage_promises : Salvage
salvage_promises =
    record {
      sound = λ file out report r. (written_sound file out report r, short file out report r);
      unaltered = λ file out report r. segments_log (kept_segments file) (salvaged_fits file out report r);
      each = λ file.
          ap (λ (k : ℕ). k + length (dropped_in file)) (segments_count file (kept_of file (entry_count file))) ∙ counts_of file (entry_count file);
      apart = apart_in;
      left = λ file. left_over file (segments_offset (entry_count file)) (kept_of file (entry_count file)) (apart_in file);
      accepted = λ file out report s h k.
          passes file out report (sound_long file s) s.fits h (omega arith);
      same = sound_same;
      again = λ file out report r.
          (comes_out (kept_segments file) (salvaged_fits file out report r), nothing_altered (kept_segments file) (salvaged_fits file out report r));
    }
