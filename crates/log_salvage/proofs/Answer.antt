-- The refusals in their order, and what a call that is not refused has written and reported.
use Rattle.std.specs.Prelude.{Err, None, Ok, Some}
use mathlib.Core.Path.{◌≡◌, refl, sym, ap, ap₂, ◌∙◌}
use mathlib.Core.Bool.{Bool, not}
use mathlib.Core.List.{List}
use Prim.Native.Nat.{ℕ, ◌+◌, ◌*◌, ◌-◌, ◌/◌, ◌≤◌, ◌<◌}
use native.Mathlib.Omega.{arith}
use lib.Dec.{leb}
use lib.ListN.{length, take, drop}
use lib.Seq.{take-append-le}
use borrow.Author.Tests.{leb-true, le-leb, lt-leb}
use Rattle.answers.specs.declared.Refusal.{Refusal}
use Rattle.answers.specs.declared.Refusal.TheVariants.{NoRoom, BadLogSize}
use Rattle.answers.proofs.Laws.{passed}
use Rattle.lists.specs.Write.{overwritten}
use Rattle.log_index.specs.Last.{index_size, index}
use Rattle.log_layout.specs.Log.{numbers_of, index_offset, segments_offset, log_of, longest_file}
use Rattle.log_layout.specs.Layout.{numbers, segments_by}
use Rattle.log_layout.proofs.Sound.{log_length, segments_count}
use Rattle.line_log.specs.Soundness.{same_numbers}
use Rattle.log_kept.specs.Kept.{entry_count, kept_of, dropped_in, kept_segments}
use Rattle.log_kept.specs.Sorting.{counts}
use Rattle.log_kept.specs.declared.Counts.{Counts}
use Rattle.log_kept.proofs.Kept.{bytes_by}
use Rattle.log_kept.proofs.Rounds.{counts_of, bytes_of_lem}
use Rattle.log_salvage.specs.Report.{salvaged, differing, report_of}
use Rattle.log_salvage.specs.Salvage.{salvage_refusal, figures, salvage_answer, salvage_out, salvage_report}
use Rattle.log_salvage.specs.declared.Figures.{Figures}

-- ---- sizes

module _ (file : List ℕ) where
  pub old_end : 1032 ≤ length file → segments_offset (entry_count file) ≤ length file
  old_end h = omega arith

  pub salvaged_size : length (salvaged file) ≡ segments_offset (length (kept_of file (entry_count file))) + bytes_by file (kept_of file (entry_count file))
  salvaged_size =
      log_length (kept_segments file)
      ∙ ap (λ (n : ℕ). segments_offset n + bytes_by file (kept_of file (entry_count file))) (segments_count file (kept_of file (entry_count file)))

  pub no_longer : 1032 ≤ length file → length (salvaged file) ≤ length file
  no_longer h =
      omega (arith, salvaged_size, counts_of file (entry_count file), bytes_of_lem file (entry_count file), old_end h)

-- ---- the refusals

module _ (file out report : List ℕ) where
  pub too_small : length file < 1032 → salvage_refusal file out report ≡ Some BadLogSize
  unfolding salvage_refusal
  too_small h = rw (lt-leb 1032 (length file) h)

  module _ (h₁ : 1032 ≤ length file) where
    pub too_large : longest_file < length file → salvage_refusal file out report ≡ Some BadLogSize
    unfolding salvage_refusal
    too_large h = rw (le-leb 1032 (length file) h₁, lt-leb (length file) longest_file h)

    module _ (h₂ : length file ≤ longest_file) where
      pub no_room : length out < length file → salvage_refusal file out report ≡ Some NoRoom
      unfolding salvage_refusal
      no_room h = rw (le-leb 1032 (length file) h₁, le-leb (length file) longest_file h₂, lt-leb (length file) (length out) h)

      module _ (h₃ : length file ≤ length out) where
        pub no_places : length report / 2 < entry_count file → salvage_refusal file out report ≡ Some NoRoom
        unfolding salvage_refusal
        no_places h =
            rw (le-leb 1032 (length file) h₁, le-leb (length file) longest_file h₂, le-leb (length file) (length out) h₃, lt-leb (entry_count file) (length report / 2) h)

        pub passes : entry_count file ≤ length report / 2 → salvage_refusal file out report ≡ None
        unfolding salvage_refusal
        passes h =
            rw (le-leb 1032 (length file) h₁, le-leb (length file) longest_file h₂, le-leb (length file) (length out) h₃, le-leb (entry_count file) (length report / 2) h)

  -- what a call that is not refused has passed
  pub sized : salvage_refusal file out report ≡ None → (1032 ≤ length file) × (length file ≤ longest_file)
  unfolding salvage_refusal
  sized r =
      let s = passed (leb 1032 (length file)) BadLogSize _ r in
      (leb-true _ _ s.0, leb-true _ _ (passed (leb (length file) longest_file) BadLogSize _ s.1).0)

  pub refusing : (refusal : Refusal) → salvage_refusal file out report ≡ Some refusal
      → (Err refusal ≡ salvage_answer file out report)
      × ((out ≡ salvage_out file out report) × (report ≡ salvage_report file out report))
  refusing refusal r = (rw r refl, (rw r refl, rw r refl))

  pub writing : (f : Figures) (o t : List ℕ) → salvage_refusal file out report ≡ None → f ≡ figures (length (salvaged file)) (report_of file)
      → o ≡ overwritten out (salvaged file) → t ≡ overwritten report (numbers_of (dropped_in file))
      → (Ok f ≡ salvage_answer file out report) × ((o ≡ salvage_out file out report) × (t ≡ salvage_report file out report))
  writing f o t r a b d = (rw r (ap Ok a), (rw r b, rw r d))

-- ---- the figures

-- what is counted fits into the file
module _ (file : List ℕ) (c : Counts) (e : c ≡ counts file (entry_count file)) (h : 1032 ≤ length file) where
  pub counted_size : 1032 + 8 * c.kept + c.bytes ≤ length file
  counted_size =
      omega (arith, ap (λ (x : Counts). 1032 + 8 * x.kept + x.bytes) e, salvaged_size file, no_longer file h)

  pub counted_left : (n : ℕ) → n ≡ entry_count file → c.bytes ≤ length file - (1032 + 8 * n)
  counted_left n k = omega (arith, k, ap (λ (x : Counts). x.bytes) e, bytes_of_lem file (entry_count file))

  pub counted_kept : (n : ℕ) → n ≡ entry_count file
      → (c.kept ≡ length (kept_of file n)) × (segments_offset c.kept + bytes_by file (kept_of file n) ≤ length file)
  counted_kept n k =
      let b = ap (λ (x : Counts). x.bytes) e in
      let s = counted_size in
      (ap (λ (x : Counts). x.kept) e ∙ ap (λ (m : ℕ). length (kept_of file m)) (sym k), rw k (omega arith))

pub figures_are : (file out after : List ℕ) (c : Counts) (n : ℕ) (marks : List ℕ) (changed : ℕ) (header : Bool)
    → c ≡ counts file (entry_count file) → n ≡ entry_count file → marks ≡ index (segments_by file (kept_of file n))
    → changed ≡ differing (numbers index_size (drop (index_offset n) file)) marks
    → after ≡ overwritten out (log_of (segments_by file (kept_of file n)))
    → header ≡ not (same_numbers (take 16 file) (take 16 after))
    → (◌≡◌ {A = Figures}
    (record {
      count = 1032 + 8 * c.kept + c.bytes;
      dropped = c.dropped;
      index = changed;
      leftover = length file - (1032 + 8 * n) - c.bytes;
      header = header;
    })
    (figures (length (salvaged file)) (report_of file)))
    × (after ≡ overwritten out (salvaged file))
figures_are file out after c n marks changed header ec en em ei eo eh =
    let m = entry_count file in
    let written : after ≡ overwritten out (salvaged file) = eo ∙ ap (λ (k : ℕ). overwritten out (log_of (segments_by file (kept_of file k)))) en in
    let size = salvaged_size file in
    let l : 16 ≤ length (salvaged file) = omega arith in
    let count : 1032 + 8 * c.kept + c.bytes ≡ length (salvaged file) =
    ap (λ (x : Counts). 1032 + 8 * x.kept + x.bytes) ec ∙ sym size in
    let index_is : changed ≡ (report_of file).index_changed =
    ei ∙ ap (differing (numbers index_size (drop (index_offset n) file))) em
    ∙ ap (λ (k : ℕ). differing (numbers index_size (drop (index_offset k) file)) (index (segments_by file (kept_of file k)))) en in
    let left : length file - (1032 + 8 * n) - c.bytes ≡ (report_of file).leftover =
    ap₂ (λ (k : ℕ) (x : Counts). length file - (1032 + 8 * k) - x.bytes) en ec in
    let header_is : header ≡ (report_of file).header_changed =
    eh ∙ ap (λ (s : List ℕ). not (same_numbers (take 16 file) s))
    (ap (λ (s : List ℕ). take 16 s) written ∙ take-append-le 16 (salvaged file) (drop (length (salvaged file)) out) l) in
    let gone : c.dropped ≡ length (dropped_in file) = ap (λ (x : Counts). x.dropped) ec in
    (rw (count, index_is, left, header_is, gone), written)
