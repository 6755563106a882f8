-- One round of the loops over a directory and an index, and what stands at an offset of them.
use mathlib.Core.Path.{◌≡◌, refl, sym, ap, ap₂}
use mathlib.Core.Bool.{true}
use mathlib.Core.List.{List, [], ◌∷◌}
use Prim.Native.Nat.{ℕ, zero, suc, ◌+◌, ◌*◌, ◌≤◌, ◌<◌}
use native.Mathlib.Numerals.{add-one}
use native.Mathlib.Omega.{arith}
use lib.Dec.{eqb, leb}
use lib.ListN.{length, drop, get_or}
use lib.Seq.{drop-drop}
use Rattle.std.specs.List.{list_all, enumerate_from}
use borrow.Author.Tests.{eq-eqb, eqb-true, leb-true}
use Rattle.lists.proofs.Bools.{and_left, and_right}
use Rattle.reading.specs.Reading.{reading}
use Rattle.packet.specs.Verdict.{protocol2}
use Rattle.log_layout.specs.Layout.{u32_at, numbers, entries, count_in, entry_of, index_in, segment_by, segments_by, none_above}
use Rattle.log_layout.specs.Log.{index_offset}
use Rattle.log_layout.proofs.Rounds.{u32_here, numbers_turn, entries_turn, entries_left, left_turn, left_end}
use Rattle.log_index.specs.Last.{index_size}
use Rattle.log_index.specs.Marks.{marked}
use Rattle.log_index.proofs.Marks.{marked_all}
use Rattle.line_log.specs.Soundness.{same_numbers}

-- ---- what stands at an offset

pub numbers_at : (s : List ℕ) (p k i : ℕ) → i < k → get_or (numbers k (drop p s)) i 0 ≡ u32_at s (p + 4 * i)
numbers_at s p zero i h = absurd (omega arith)
numbers_at s p (suc k) zero h = let e : p + 4 * 0 ≡ p = omega arith in rw (numbers_turn s p k, e)
numbers_at s p (suc k) (suc i) h =
    let e : p + 4 + 4 * i ≡ p + 4 * suc i = omega arith in rw (numbers_turn s p k, ← e) (numbers_at s (p + 4) k i (omega arith))

pub numbers_length : (k : ℕ) (s : List ℕ) → length (numbers k s) ≡ k
unfolding numbers
numbers_length zero s = refl
numbers_length (suc k) s = ap suc (numbers_length k (drop 4 s))

pub segments_at : (file s : List ℕ) (p k i : ℕ) → i < k
    → get_or (segments_by file (entries k (drop p s))) i [] ≡ segment_by file (u32_at s (p + 8 * i), u32_at s (p + 8 * i + 4))
segments_at file s p zero i h = absurd (omega arith)
segments_at file s p (suc k) zero h = let e : p + 8 * 0 ≡ p = omega arith in rw (entries_turn s p k, e)
segments_at file s p (suc k) (suc i) h =
    let e : p + 8 + 8 * i ≡ p + 8 * suc i = omega arith in rw (entries_turn s p k, ← e) (segments_at file s (p + 8) k i (omega arith))

pub none_above_lem : (n : ℕ) (xs : List ℕ) (i : ℕ) → none_above n xs ≡ true → i < length xs → get_or xs i 0 ≤ n
unfolding none_above
none_above_lem n [] i e h = absurd (omega arith)
none_above_lem n (x ∷ xs) zero e h = leb-true x n (and_left (leb x n) (none_above n xs) e)
none_above_lem n (x ∷ xs) (suc i) e h = none_above_lem n xs i (and_right (leb x n) (none_above n xs) e) (omega arith)

-- ---- the index made from a directory

pub marked_turn : (file xs : List ℕ) (n i : ℕ) → i < n
    → marked_all i xs (segments_by file (entries_left file n i))
    ≡ marked_all (i + 1) (marked (i + 1) xs (reading protocol2 (segment_by file (entry_of file i)))) (segments_by file (entries_left file n (i + 1)))
unfolding marked_all
marked_turn file xs n i h = rw (left_turn file n i h, add-one)

pub marked_end : (file xs : List ℕ) (n i : ℕ) → n ≤ i → marked_all i xs (segments_by file (entries_left file n i)) ≡ xs
unfolding marked_all
marked_end file xs n i h = rw (left_end file n i h)

-- ---- the index compared, number by number

all_same : (file : List ℕ) (p : ℕ) (xs : List ℕ) (k a q : ℕ) → k ≡ length xs → q ≡ p + 4 * a
    → list_all (λ (e : ℕ × ℕ). eqb (u32_at file (p + 4 * e.0)) e.1) (enumerate_from a xs) ≡ same_numbers (numbers k (drop q file)) xs
unfolding same_numbers numbers
all_same file p [] k a q l e = rw l
all_same file p (x ∷ xs) zero a q l e = absurd (omega arith)
all_same file p (x ∷ xs) (suc k) a q l e =
    rw (u32_here file q, drop-drop 4 q file, all_same file p xs k (a + 1) (q + 4) (omega arith) (omega arith), e)

pub index_same : (file xs : List ℕ) → length xs ≡ index_size
    → list_all (λ (e : ℕ × ℕ). eqb (u32_at file (index_offset (count_in file) + 4 * e.0)) e.1) (enumerate_from 0 xs) ≡ same_numbers (index_in file) xs
index_same file xs l = let p = index_offset (count_in file) in all_same file p xs index_size 0 p (sym l) (omega arith)

pub same_are : (xs ys : List ℕ) → same_numbers xs ys ≡ true → xs ≡ ys
unfolding same_numbers
same_are [] [] e = refl
same_are [] (y ∷ ys) e = let z : ◌≡◌ {A = ℕ} 0 1 = cc in absurd (omega arith)
same_are (x ∷ xs) [] e = let z : ◌≡◌ {A = ℕ} 0 1 = cc in absurd (omega arith)
same_are (x ∷ xs) (y ∷ ys) e =
    ap₂ (λ (a : ℕ) (l : List ℕ). a ∷ l) (eqb-true x y (and_left (eqb x y) (same_numbers xs ys) e))
    (same_are xs ys (and_right (eqb x y) (same_numbers xs ys) e))

pub same_self : (xs : List ℕ) → same_numbers xs xs ≡ true
unfolding same_numbers
same_self [] = refl
same_self (x ∷ xs) = rw (eq-eqb x x refl) (same_self xs)
