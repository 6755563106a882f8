-- One round of a loop over the entries of a file, by how the next one is judged.
use Rattle.std.specs.Prelude.{Err, None, Ok, Option, Result, Some}
use mathlib.Core.Path.{◌≡◌, refl, sym, ap, subst, ◌∙◌}
use mathlib.Core.Bool.{Bool, true, false}
use mathlib.Core.List.{List, [], ◌∷◌}
use Prim.Native.Nat.{ℕ, suc, ◌+◌, ◌*◌, ◌-◌, ◌/◌, ◌≤◌, ◌<◌}
use native.Mathlib.Numerals.{add-one}
use native.Mathlib.Omega.{arith}
use lib.ListN.{length, drop, set}
use lib.Dec.{leb}
use borrow.Author.Tests.{le-leb, lt-leb, leb-true, leb-false}
use Rattle.answers.specs.Refusals.{first_failing}
use Rattle.answers.specs.Answers.{answered}
use Rattle.answers.specs.declared.Refusal.{Refusal}
use Rattle.answers.proofs.Laws.{counted, passed}
use Rattle.answers.specs.declared.Refusal.TheVariants.{NoRoom}
use Rattle.lists.specs.Write.{overwritten}
use Rattle.lists.proofs.Filling.{Filling, fill_start, fill_next, fill_done}
use Rattle.log_layout.specs.Log.{LogEntry, numbers_of, segments_offset}
use Rattle.log_layout.specs.Layout.{entries, entry_of, extent_of}
use Rattle.log_layout.specs.declared.Extent.{Extent}
use Rattle.log_layout.proofs.Rounds.{entries_left, left_turn, left_end}
use Rattle.log_layout.proofs.Sound.{entries_count}
use Rattle.log_kept.specs.Kept.{entry_count, fault, reason, kept, Dropped, dropped, kept_of, dropped_of, dropped_in}
use Rattle.log_kept.specs.Sorting.{judged, counts, sort_refusal, sort_answer, sort_report}
use Rattle.log_kept.specs.declared.Counts.{Counts}
use Rattle.log_kept.specs.declared.Fault.{Fault}
use Rattle.log_kept.proofs.Kept.{fault_none, kept_here, dropped_not, kept_not, dropped_here, counts_add, bytes_by, bytes_cons, kept_fits}

abbrev pub kept_left : List ℕ → ℕ → ℕ → ℕ → List LogEntry
kept_left file n i limit = kept (length file) limit (entries_left file n i)

abbrev pub dropped_left : List ℕ → ℕ → ℕ → ℕ → List Dropped
dropped_left file n i limit = dropped (length file) limit i (entries_left file n i)

abbrev pub judged_at : List ℕ → ℕ → ℕ → Result Extent Fault
judged_at file i limit = judged (fault (length file) limit (entry_of file i)) (entry_of file i)

-- the entry that was judged
was_kept : (o : Option Fault) (e : LogEntry) (x : Extent) → judged o e ≡ Ok x → (o ≡ None) × (e ≡ (x.start, x.count))
was_kept None e x q = let a : extent_of e ≡ x = cc in (refl, ap {B = LogEntry} (λ (y : Extent). (y.start, y.count)) a)
was_kept (Some r) e x q = let k : ◌≡◌ {A = ℕ} 0 1 = cc in absurd (omega arith)

was_dropped : (o : Option Fault) (e : LogEntry) (r : Fault) → judged o e ≡ Err r → o ≡ Some r
was_dropped None e r q = let k : ◌≡◌ {A = ℕ} 0 1 = cc in absurd (omega arith)
was_dropped (Some t) e r q = let a : t ≡ r = cc in rw a

module _ (file : List ℕ) (n limit : ℕ) where
  pub kept_start : kept_of file n ≡ kept (length file) (segments_offset n) (entries_left file n 0)
  kept_start = let z : n - 0 ≡ n = omega arith in rw z refl

  pub dropped_start : dropped_of file n ≡ dropped (length file) (segments_offset n) 0 (entries_left file n 0)
  dropped_start = let z : n - 0 ≡ n = omega arith in rw z refl

  module _ (i : ℕ) (h : n ≤ i) where
    pub kept_end : kept_left file n i limit ≡ []
    unfolding kept
    kept_end = rw (left_end file n i h)

    pub dropped_end : dropped_left file n i limit ≡ []
    unfolding dropped
    dropped_end = rw (left_end file n i h)

  module _ (i : ℕ) (h : i < n) where
    module _ (x : Extent) (j : judged_at file i limit ≡ Ok x) where
      stated : (fault (length file) limit (entry_of file i) ≡ None) × (entry_of file i ≡ (x.start, x.count))
      stated = was_kept (fault (length file) limit (entry_of file i)) (entry_of file i) x j

      pub kept_within : (limit ≤ x.start) × (x.start + x.count ≤ length file)
      kept_within = fault_none (length file) limit (x.start, x.count) (ap (fault (length file) limit) (sym stated.1) ∙ stated.0)

      pub kept_first : kept_left file n i limit ≡ (x.start, x.count) ∷ kept_left file n (i + 1) (x.start + x.count)
      kept_first =
          ap (kept (length file) limit) (left_turn file n i h)
          ∙ kept_here (length file) limit (entry_of file i) (entries_left file n (i + 1)) i stated.0
          ∙ ap (λ (e : LogEntry). e ∷ kept (length file) (e.0 + e.1) (entries_left file n (i + 1))) stated.1

      pub dropped_same : dropped_left file n i limit ≡ dropped_left file n (i + 1) (x.start + x.count)
      dropped_same =
          ap (dropped (length file) limit i) (left_turn file n i h)
          ∙ dropped_not (length file) limit (entry_of file i) (entries_left file n (i + 1)) i stated.0
          ∙ ap (λ (e : LogEntry). dropped (length file) (e.0 + e.1) (suc i) (entries_left file n (i + 1))) stated.1
          ∙ ap (λ (k : ℕ). dropped (length file) (x.start + x.count) k (entries_left file n (i + 1))) (sym (add-one i))

      pub bytes_first : bytes_by file (kept_left file n i limit) ≡ x.count + bytes_by file (kept_left file n (i + 1) (x.start + x.count))
      bytes_first = ap (bytes_by file) kept_first ∙ bytes_cons file x.start x.count (kept_left file n (i + 1) (x.start + x.count)) kept_within.1

    module _ (r : Fault) (j : judged_at file i limit ≡ Err r) where
      pub kept_same : kept_left file n i limit ≡ kept_left file n (i + 1) limit
      kept_same =
          ap (kept (length file) limit) (left_turn file n i h)
          ∙ kept_not (length file) limit (entry_of file i) (entries_left file n (i + 1)) i r
          (was_dropped (fault (length file) limit (entry_of file i)) (entry_of file i) r j)

      pub dropped_first : dropped_left file n i limit ≡ (i, reason r) ∷ dropped_left file n (i + 1) limit
      dropped_first =
          ap (dropped (length file) limit i) (left_turn file n i h)
          ∙ dropped_here (length file) limit (entry_of file i) (entries_left file n (i + 1)) i r
          (was_dropped (fault (length file) limit (entry_of file i)) (entry_of file i) r j)
          ∙ ap (λ (k : ℕ). (i, reason r) ∷ dropped (length file) limit k (entries_left file n (i + 1))) (sym (add-one i))

-- of n entries, how many are kept and how many dropped, and the bytes of the kept ones
pub counts_of : (file : List ℕ) (n : ℕ) → length (kept_of file n) + length (dropped_of file n) ≡ n
counts_of file n = counts_add (length file) (segments_offset n) 0 (entries n (drop 16 file)) ∙ entries_count n (drop 16 file)

pub bytes_of_lem : (file : List ℕ) (n : ℕ) → bytes_by file (kept_of file n) ≤ length file - segments_offset n
bytes_of_lem file n = kept_fits file (segments_offset n) (entries n (drop 16 file))

-- ---- the list of the dropped ones

-- entries before number i have been judged: the bytes of the kept ones, how many were dropped, and what the report holds
pub record Listing (file : List ℕ) (n : ℕ) (old report : List ℕ) (limit bytes count i : ℕ) : Type 0 where
  pub within : i ≤ n
  pub bytes_are : bytes + bytes_by file (kept_left file n i limit) ≡ bytes_by file (kept_of file n)
  pub count_is : count + length (dropped_left file n i limit) ≡ length (dropped_of file n)
  pub listed : Filling (numbers_of (dropped_of file n)) old report (2 * count) (numbers_of (dropped_left file n i limit))

pub listing_start : (file : List ℕ) (n : ℕ) (old : List ℕ) → Listing file n old old (segments_offset n) 0 0 0
listing_start file n old =
    record {
      within = omega arith;
      bytes_are = omega (arith, ap (bytes_by file) (kept_start file n 0));
      count_is = omega (arith, ap length (dropped_start file n 0));
      listed = rw (← dropped_start file n 0) (fill_start (numbers_of (dropped_of file n)) old);
    }

module _ (file : List ℕ) (n : ℕ) (old report : List ℕ) (limit bytes count i : ℕ) (l : Listing file n old report limit bytes count i) where
  module _ (h : i < n) where
    module _ (x : Extent) (j : judged_at file i limit ≡ Ok x) where
      pub listing_bytes : bytes + x.count ≤ length file
      listing_bytes = omega (arith, l.bytes_are, bytes_first file n limit i h x j, bytes_of_lem file n)

      pub listing_kept : Listing file n old report (x.start + x.count) (bytes + x.count) count (i + 1)
      listing_kept =
          let d = dropped_same file n limit i h x j in
          record {
            within = omega arith;
            bytes_are = omega (arith, l.bytes_are, bytes_first file n limit i h x j);
            count_is = omega (arith, l.count_is, ap length d);
            listed = subst (λ (x : List Dropped). Filling (numbers_of (dropped_of file n)) old report (2 * count) (numbers_of x)) d l.listed;
          }

    module _ (room : 2 * n ≤ length old) (r : Fault) (j : judged_at file i limit ≡ Err r) where
      pub listing_room : 2 * count + 1 < length old
      listing_room = omega (arith, l.count_is, ap length (dropped_first file n limit i h r j), counts_of file n)

      pub listing_dropped : Listing file n old (set (set report (2 * count) i) (2 * count + 1) (reason r)) limit bytes (count + 1) (i + 1)
      listing_dropped =
          let d = dropped_first file n limit i h r j in
          let k = listing_room in
          let z : 2 * count + 1 + 1 ≡ 2 * (count + 1) = omega arith in
          let f₀ = subst (λ (x : List Dropped). Filling (numbers_of (dropped_of file n)) old report (2 * count) (numbers_of x)) d l.listed in
          let f₁ = fill_next _ _ _ (2 * count) i (reason r ∷ numbers_of (dropped_left file n (i + 1) limit)) f₀ (omega arith) in
          let f₂ = fill_next _ _ _ (2 * count + 1) (reason r) (numbers_of (dropped_left file n (i + 1) limit)) f₁ (omega arith) in
          record {
            within = omega arith;
            bytes_are = ap (λ (x : List LogEntry). bytes + bytes_by file x) (sym (kept_same file n limit i h r j)) ∙ l.bytes_are;
            count_is = omega (arith, l.count_is, ap length d);
            listed = rw z at f₂;
          }

  module _ (h : n ≤ i) where
    pub listing_count : count ≡ length (dropped_of file n)
    listing_count = omega (arith, l.count_is, ap length (dropped_end file n limit i h))

    pub listing_counts : ◌≡◌ {A = Counts} (record { kept = n - count; bytes = bytes; dropped = count }) (counts file n)
    listing_counts =
        let c = listing_count in
        let k : n - count ≡ length (kept_of file n) = omega (arith, c, counts_of file n) in
        let b : bytes ≡ bytes_by file (kept_of file n) = omega (arith, l.bytes_are, ap (bytes_by file) (kept_end file n limit i h)) in
        rw (k, b, c)

    pub listing_done : report ≡ overwritten old (numbers_of (dropped_of file n))
    listing_done =
        fill_done (numbers_of (dropped_of file n)) old report (2 * count)
        (subst (λ (x : List Dropped). Filling (numbers_of (dropped_of file n)) old report (2 * count) (numbers_of x)) (dropped_end file n limit i h) l.listed)

-- ---- the room for it

module _ (file report : List ℕ) (n : ℕ) (e : n ≡ entry_count file) where
  pub sort_refused : length report / 2 < n → (Err NoRoom ≡ sort_answer file report) × (report ≡ sort_report file report)
  unfolding sort_refusal
  sort_refused h = let t = lt-leb (entry_count file) (length report / 2) (omega arith) in (rw t refl, rw t refl)

  pub sort_listed : (c : Counts) (after : List ℕ) → n ≤ length report / 2 → c ≡ counts file n
      → after ≡ overwritten report (numbers_of (dropped_of file n))
      → (Ok c ≡ sort_answer file report) × (after ≡ sort_report file report)
  unfolding sort_refusal
  sort_listed c after h k d =
      let t = le-leb (entry_count file) (length report / 2) (omega arith) in
      (rw t (ap Ok (k ∙ ap (counts file) e)), rw t (d ∙ ap (λ (m : ℕ). overwritten report (numbers_of (dropped_of file m))) e))

-- what an answer tells
module _ (file report : List ℕ) where
  pub was_listed : (c : Counts) → sort_answer file report ≡ Ok c
      → (entry_count file ≤ length report / 2) × (c ≡ counts file (entry_count file))
      × (sort_report file report ≡ overwritten report (numbers_of (dropped_in file)))
  unfolding sort_refusal
  was_listed c e =
      let k = counted (sort_refusal file report) (counts file (entry_count file)) c e in
      (leb-true _ _ (passed (leb (entry_count file) (length report / 2)) NoRoom None k.0).0, sym k.1, rw k.0)

  pub was_refused : (r : Refusal) → sort_answer file report ≡ Err r
      → (length report / 2 < entry_count file) × (r ≡ NoRoom) × (sort_report file report ≡ report)
  unfolding sort_refusal
  was_refused r e = by_test (leb (entry_count file) (length report / 2)) refl e
    where
      by_test : (t : Bool) → leb (entry_count file) (length report / 2) ≡ t
          → answered (first_failing ((t, NoRoom) ∷ [])) (counts file (entry_count file)) ≡ Err r
          → (length report / 2 < entry_count file) × (r ≡ NoRoom) × (sort_report file report ≡ report)
      by_test true t e = let k : ◌≡◌ {A = ℕ} 0 1 = cc in absurd (omega arith)
      by_test false t e = (leb-false _ _ t, cc, rw t refl)
