-- The index and the header compared with what was written.
use mathlib.Core.Path.{◌≡◌, refl, sym, ap, ◌∙◌}
use mathlib.Core.Bool.{Bool, true, false, not, cond, ◌&&◌}
use mathlib.Core.List.{List, [], ◌∷◌}
use Prim.Native.Nat.{ℕ, zero, suc, ◌+◌, ◌*◌}
use native.Mathlib.Omega.{arith}
use lib.Dec.{eqb}
use lib.ListN.{length, drop}
use lib.Seq.{drop-drop}
use Rattle.std.specs.Cmp.Lexicographic.{pointwise}
use Rattle.std.specs.List.{count_by, enumerate_from}
use Rattle.std.proofs.lemmas.List.Sums.{sum_by-cons}
use Rattle.log_index.specs.Last.{index_size}
use Rattle.log_layout.specs.Log.{index_offset}
use Rattle.log_layout.specs.Layout.{u32_at, numbers}
use Rattle.log_layout.proofs.Rounds.{u32_here}
use Rattle.line_log.specs.Soundness.{same_numbers}
use Rattle.log_salvage.specs.Report.{differing}

not_cond : (b : Bool) → ◌≡◌ {A = ℕ} (cond (not b) 1 0) (cond b 0 1)
not_cond true = refl
not_cond false = refl

all_differ : (file : List ℕ) (p : ℕ) (xs : List ℕ) (k a q : ℕ) → k ≡ length xs → q ≡ p + 4 * a
    → count_by (λ (e : ℕ × ℕ). not (eqb (u32_at file (p + 4 * e.0)) e.1)) (enumerate_from a xs) ≡ differing (numbers k (drop q file)) xs
unfolding differing numbers
all_differ file p [] zero a q l e = refl
all_differ file p [] (suc k) a q l e = absurd (omega arith)
all_differ file p (x ∷ xs) zero a q l e = absurd (omega arith)
all_differ file p (x ∷ xs) (suc k) a q l e =
    sum_by-cons (λ (d : ℕ × ℕ). cond (not (eqb (u32_at file (p + 4 * d.0)) d.1)) 1 0) (a, x) (enumerate_from (a + 1) xs)
    ∙ rw (u32_here file q, drop-drop 4 q file, ← e, not_cond (eqb (u32_at file q) x))
    (ap (λ (n : ℕ). cond (eqb (u32_at file q) x) 0 1 + n) (all_differ file p xs k (a + 1) (q + 4) (omega arith) (omega arith)))

-- the index compared, number by number
pub index_differs : (file xs : List ℕ) (n : ℕ) → length xs ≡ index_size
    → count_by (λ (e : ℕ × ℕ). not (eqb (u32_at file (index_offset n + 4 * e.0)) e.1)) (enumerate_from 0 xs)
    ≡ differing (numbers index_size (drop (index_offset n) file)) xs
index_differs file xs n l = let p = index_offset n in all_differ file p xs index_size 0 p (sym l) (omega arith)

-- as slices are compared
pub pointwise_same : (xs ys : List ℕ) → pointwise eqb xs ys ≡ same_numbers xs ys
unfolding same_numbers
pointwise_same [] [] = refl
pointwise_same [] (y ∷ ys) = refl
pointwise_same (x ∷ xs) [] = refl
pointwise_same (x ∷ xs) (y ∷ ys) = ap (λ (b : Bool). eqb x y && b) (pointwise_same xs ys)
