-- Several parts placed in one buffer: one behind the other, and in either order.
use mathlib.Core.Path.{◌≡◌, refl, sym, ap, ◌∙◌}
use mathlib.Core.List.{List, [], ◌∷◌, ◌++◌}
use Prim.Native.Nat.{ℕ, zero, suc, ◌+◌, ◌≤◌}
use native.Mathlib.Omega.{arith}
use lib.ListN.{length, take-append-drop}
use Rattle.lists.specs.Write.{placed}

pub placed_none : (b : List ℕ) (p : ℕ) → placed b p [] ≡ b
placed_none b p = take-append-drop p b

pub placed_length : (b : List ℕ) (p : ℕ) (x : List ℕ) → p + length x ≤ length b → length (placed b p x) ≡ length b
placed_length b zero [] h = refl
placed_length [] zero (c ∷ x) h = absurd (omega arith)
placed_length (d ∷ b) zero (c ∷ x) h = ap suc (placed_length b zero x (omega arith))
placed_length [] (suc p) x h = absurd (omega arith)
placed_length (d ∷ b) (suc p) x h = ap suc (placed_length b p x (omega arith))

-- what is left is placed behind the first part
pub placed_next : (b : List ℕ) (p : ℕ) (x y : List ℕ) (q : ℕ) → q ≡ p + length x → q ≤ length b
    → placed b p (x ++ y) ≡ placed (placed b p x) q y
placed_next b zero [] y zero e h = refl
placed_next b zero [] y (suc q) e h = absurd (omega arith)
placed_next b zero (c ∷ x) y zero e h = absurd (omega arith)
placed_next [] zero (c ∷ x) y (suc q) e h = absurd (omega arith)
placed_next (d ∷ b) zero (c ∷ x) y (suc q) e h = ap (λ (l : List ℕ). c ∷ l) (placed_next b zero x y q (omega arith) (omega arith))
placed_next b (suc p) x y zero e h = absurd (omega arith)
placed_next [] (suc p) x y (suc q) e h = absurd (omega arith)
placed_next (d ∷ b) (suc p) x y (suc q) e h = ap (λ (l : List ℕ). d ∷ l) (placed_next b p x y q (omega arith) (omega arith))

-- of two parts that do not overlap either may be first
pub placed_swap : (b : List ℕ) (p : ℕ) (x : List ℕ) (q : ℕ) (y : List ℕ) → p + length x ≤ q → q ≤ length b
    → placed (placed b q y) p x ≡ placed (placed b p x) q y
placed_swap b zero [] q y e h = refl
placed_swap b zero (c ∷ x) zero y e h = absurd (omega arith)
placed_swap [] zero (c ∷ x) (suc q) y e h = absurd (omega arith)
placed_swap (d ∷ b) zero (c ∷ x) (suc q) y e h = ap (λ (l : List ℕ). c ∷ l) (placed_swap b zero x q y (omega arith) (omega arith))
placed_swap b (suc p) x zero y e h = absurd (omega arith)
placed_swap [] (suc p) x (suc q) y e h = absurd (omega arith)
placed_swap (d ∷ b) (suc p) x (suc q) y e h = ap (λ (l : List ℕ). d ∷ l) (placed_swap b p x q y (omega arith) (omega arith))

-- two areas that are filled side by side: a part of each, and what is left of them
pub placed_both : (b : List ℕ) (p : ℕ) (e f : List ℕ) (q : ℕ) (s t : List ℕ) (p' q' : ℕ) → p' ≡ p + length e → q' ≡ q + length s
    → p' + length f ≤ q → q' ≤ length b
    → placed (placed b p (e ++ f)) q (s ++ t) ≡ placed (placed (placed (placed b p e) q s) p' f) q' t
placed_both b p e f q s t p' q' u v h k =
    let b₁ = placed b p e in
    let l₁ = placed_length b p e (omega arith) in
    let l₂ = placed_length b₁ p' f (omega arith) in
    ap (λ (x : List ℕ). placed x q (s ++ t)) (placed_next b p e f p' u (omega arith))
    ∙ placed_next (placed b₁ p' f) q s t q' v (omega arith)
    ∙ ap (λ (x : List ℕ). placed x q' t) (sym (placed_swap b₁ p' f q s h (omega arith)))
