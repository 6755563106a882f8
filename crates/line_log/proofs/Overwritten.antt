-- A byte that is overwritten behind the index, outside the segment that the index names, changes no answer.
use mathlib.Core.Path.{◌≡◌, refl, sym, ap, ap₂, ◌∙◌}
use mathlib.Core.Bool.{true}
use mathlib.Core.List.{List, [], ◌∷◌}
use mathlib.Core.Logic.{◌⊎◌, ⊎_elim}
use Prim.Native.Nat.{ℕ, zero, suc, ◌+◌, ◌*◌, ◌-◌, ◌≤◌, ◌<◌}
use native.Mathlib.Omega.{arith}
use lib.ListN.{take, drop, set, length-set}
use lib.Seq.{get_or-set_other}
use Rattle.lists.proofs.Numbers.{same_number}
use Rattle.log_index.specs.Last.{mark_of}
use Rattle.log_index.proofs.Marks.{position_within}
use Rattle.log_layout.specs.Log.{LogEntry, directory_offset, index_offset, segments_offset}
use Rattle.log_layout.specs.Layout.{u32_at, numbers, entries, count_in, directory_in, index_in, header_right, laid_out}
use Rattle.line_log.specs.Applied.{OverwrittenApplied}

module _ (b : ℕ) where
  take_set : (i : ℕ) (l : List ℕ) (j : ℕ) → i ≤ j → take i (set l j b) ≡ take i l
  take_set zero l j h = refl
  take_set (suc i) [] j h = refl
  take_set (suc i) (x ∷ l) zero h = absurd (omega arith)
  take_set (suc i) (x ∷ l) (suc j) h = ap (λ (r : List ℕ). x ∷ r) (take_set i l j (omega arith))

  drop_set : (s i j : ℕ) (l : List ℕ) → j ≡ s + i → drop s (set l j b) ≡ set (drop s l) i b
  drop_set zero i j l e = let f : j ≡ i = omega (arith, e) in ap (λ (k : ℕ). set l k b) f
  drop_set (suc s) i j [] e = refl
  drop_set (suc s) i zero (x ∷ l) e = absurd (omega (arith, e))
  drop_set (suc s) i (suc j) (x ∷ l) e = drop_set s i j l (omega (arith, e))

  drop_set_at : (s j : ℕ) (l : List ℕ) → s ≤ j → drop s (set l j b) ≡ set (drop s l) (j - s) b
  drop_set_at s j l h = drop_set s (j - s) j l (omega arith)

  drop_past : (s : ℕ) (l : List ℕ) (j : ℕ) → j < s → drop s (set l j b) ≡ drop s l
  drop_past zero l j h = absurd (omega arith)
  drop_past (suc s) [] j h = refl
  drop_past (suc s) (x ∷ l) zero h = refl
  drop_past (suc s) (x ∷ l) (suc j) h = drop_past s l j (omega arith)

  part_set : (s n : ℕ) (l : List ℕ) (j : ℕ) → (j < s) ⊎ (s + n ≤ j) → take n (drop s (set l j b)) ≡ take n (drop s l)
  part_set s n l j o =
      ⊎_elim (λ h. ap (take n) (drop_past s l j h))
      (λ h. ap (take n) (drop_set_at s j l (omega arith)) ∙ take_set n (drop s l) (j - s) (omega arith)) o

  u32_set : (l : List ℕ) (a j : ℕ) → a + 4 ≤ j → u32_at (set l j b) a ≡ u32_at l a
  u32_set l a j h = same_number 4 (set l j b) l a a (λ k i. get_or-set_other l j (a + k) b 0 (λ e. omega (arith, e)))

  entries_set : (k : ℕ) (l : List ℕ) (j : ℕ) → 8 * k ≤ j → entries k (set l j b) ≡ entries k l
  unfolding entries
  entries_set zero l j h = refl
  entries_set (suc k) l j h =
      ap₂ {C = List LogEntry} (λ (e : LogEntry) (es : List LogEntry). e ∷ es)
      (ap₂ {C = LogEntry} (λ (x y : ℕ). (x, y)) (u32_set l 0 j (omega arith)) (u32_set l 4 j (omega arith)))
      (ap (entries k) (drop_set_at 8 j l (omega arith)) ∙ entries_set k (drop 8 l) (j - 8) (omega arith))

  numbers_set : (k : ℕ) (l : List ℕ) (j : ℕ) → 4 * k ≤ j → numbers k (set l j b) ≡ numbers k l
  unfolding numbers
  numbers_set zero l j h = refl
  numbers_set (suc k) l j h =
      ap₂ (λ (x : ℕ) (xs : List ℕ). x ∷ xs) (u32_set l 0 j (omega arith))
      (ap (numbers k) (drop_set_at 4 j l (omega arith)) ∙ numbers_set k (drop 4 l) (j - 4) (omega arith))

  module _ (file : List ℕ) (offset : ℕ) (h : segments_offset (count_in file) ≤ offset) where
    same_count : count_in (set file offset b) ≡ count_in file
    same_count = u32_set file 0 offset (omega arith)

    same_directory : directory_in (set file offset b) ≡ directory_in file
    same_directory =
        ap (λ (n : ℕ). entries n (drop directory_offset (set file offset b))) same_count
        ∙ ap (entries (count_in file)) (drop_set_at 16 offset file (omega arith))
        ∙ entries_set (count_in file) (drop 16 file) (offset - 16) (omega arith)

    same_index : index_in (set file offset b) ≡ index_in file
    same_index =
        ap (λ (n : ℕ). numbers 254 (drop (index_offset n) (set file offset b))) same_count
        ∙ ap (numbers 254) (drop_set_at (index_offset (count_in file)) offset file (omega arith))
        ∙ numbers_set 254 (drop (index_offset (count_in file)) file) (offset - index_offset (count_in file)) (omega arith)

    still_laid_out : laid_out file ≡ true → laid_out (set file offset b) ≡ true
    unfolding laid_out header_right
    still_laid_out t =
        rw (same_directory, same_index, same_count, length-set file offset b, u32_set file 4 offset (omega arith), u32_set file 8 offset (omega arith), u32_set file 12 offset (omega arith)) t

pub overwritten_applied : OverwrittenApplied
overwritten_applied t file id offset b laid h outside =
    let w = position_within id in
    t.depends_only file (set file offset b) id laid (still_laid_out b file offset h laid)
    (sym (take_set b (index_offset (count_in file)) file offset (omega arith)))
    (sym (ap (λ (n : ℕ). u32_at (set file offset b) (index_offset n + 4 * mark_of id)) (same_count b file offset h) ∙ u32_set b file (index_offset (count_in file) + 4 * mark_of id) offset (omega arith)))
    (λ k e. sym (part_set b _ _ file offset (outside k e)))
