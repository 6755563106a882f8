-- Laws on lists that only this crate needs.
use mathlib.Core.Path.{◌≡◌, refl, ap}
use mathlib.Core.List.{List, [], ◌∷◌, ◌++◌}
use Prim.Native.Nat.{ℕ, zero, suc, ◌+◌, ◌≤◌, ◌<◌}
use native.Mathlib.Omega.{arith}
use lib.ListN.{length, take, drop, set, get_or}
use Rattle.lists.specs.Write.{overwritten}

-- one byte more, right behind what was written
pub set_next : (o x : List ℕ) (a : ℕ) → length x < length o → set (overwritten o x) (length x) a ≡ overwritten o (x ++ a ∷ [])
set_next [] x a h = absurd (omega arith)
set_next (y ∷ o) [] a h = refl
set_next (y ∷ o) (b ∷ x) a h = ap (λ (l : List ℕ). b ∷ l) (set_next o x a (omega arith))

-- the first four bytes and the rest
pub four_apart : (w : List ℕ) → 4 ≤ length w → take 2 w ++ get_or w 2 0 ∷ get_or w 3 0 ∷ drop 4 w ≡ w
four_apart [] h = absurd (omega arith)
four_apart (x0 ∷ []) h = absurd (omega arith)
four_apart (x0 ∷ x1 ∷ []) h = absurd (omega arith)
four_apart (x0 ∷ x1 ∷ x2 ∷ []) h = absurd (omega arith)
four_apart (x0 ∷ x1 ∷ x2 ∷ x3 ∷ w) h = refl

-- the last byte
pub last_one : (s : List ℕ) (n : ℕ) → length s ≡ n + 1 → take n s ++ get_or s n 0 ∷ [] ≡ s
last_one [] n h = absurd (omega arith)
last_one (x ∷ []) zero h = refl
last_one (x ∷ y ∷ s) zero h = absurd (omega arith)
last_one (x ∷ s) (suc n) h = ap (λ (l : List ℕ). x ∷ l) (last_one s n (omega arith))
