-- Claims about lists of numbers that a test decides, for lists that are written out.
use mathlib.Core.Path.{◌≡◌, refl, ap₂}
use mathlib.Core.Bool.{Bool, true, false, ◌&&◌}
use mathlib.Core.List.{List, [], ◌∷◌}
use Prim.Native.Nat.{ℕ, zero, suc}
use native.Mathlib.Omega.{arith}
use lib.Dec.{eqb, ltb}
use borrow.Author.Tests.{eqb-true, ltb-true}
use Rattle.lists.specs.Numbers.{Bytes}
use Rattle.lists.proofs.Bools.{and_left, and_right}

abbrev pub all_bytes : List ℕ → Bool
all_bytes [] = true
all_bytes (b ∷ s) = ltb b 256 && all_bytes s

pub are_bytes : (s : List ℕ) → all_bytes s ≡ true → Bytes s
are_bytes [] e i = omega arith
are_bytes (b ∷ s) e zero = ltb-true b 256 (and_left (ltb b 256) (all_bytes s) e)
are_bytes (b ∷ s) e (suc i) = are_bytes s (and_right (ltb b 256) (all_bytes s) e) i

abbrev pub same : List ℕ → List ℕ → Bool
same [] [] = true
same [] (b ∷ t) = false
same (a ∷ s) [] = false
same (a ∷ s) (b ∷ t) = eqb a b && same s t

pub same_lists : (s t : List ℕ) → same s t ≡ true → s ≡ t
same_lists [] [] e = refl
same_lists [] (b ∷ t) e = let z : ◌≡◌ {A = ℕ} 0 1 = cc in absurd (omega arith)
same_lists (a ∷ s) [] e = let z : ◌≡◌ {A = ℕ} 0 1 = cc in absurd (omega arith)
same_lists (a ∷ s) (b ∷ t) e =
    ap₂ (λ (x : ℕ) (l : List ℕ). x ∷ l) (eqb-true a b (and_left (eqb a b) (same s t) e))
    (same_lists s t (and_right (eqb a b) (same s t) e))
