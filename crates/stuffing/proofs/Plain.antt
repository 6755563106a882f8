-- Bytes before the first FD: no mark ends there, and nothing is left out.
use mathlib.Core.Path.{◌≡◌, refl, ap, subst, ◌∙◌}
use mathlib.Core.Bool.{false, and-false}
use mathlib.Core.List.{List, ◌∷◌}
use Prim.Native.Nat.{ℕ, zero, suc, ◌+◌, ◌≤◌, ◌<◌}
use native.Mathlib.Omega.{arith}
use lib.ListN.{length, get_or}
use borrow.Author.Tests.{ne_eqb}
use Rattle.stuffing.specs.Stuffing.{mark, well_stuffed, unstuff, NoFd}
use Rattle.stuffing.proofs.Rounds.{well_at, unstuffed_at, marked, marked_next, well_kept, unstuff_kept}

pub not_marked : (a b c : ℕ) → ¬ (c ≡ 0xFD) → mark a b c ≡ false
not_marked a b c n = simp (ne_eqb c 0xFD n, and-false) refl

-- the test may begin there
abbrev Begun : List ℕ → ℕ → Type 0
Begun s n = (marked s n ≡ false) × (well_at s n ≡ well_stuffed s) × (n + length (unstuffed_at s n) ≡ length (unstuff s))

pub begun : (s : List ℕ) (n : ℕ) → NoFd s n → n ≤ length s → Begun s n
begun s zero none l = (refl, refl, omega arith)
begun s (suc n) none l =
    let w = begun s n (λ k h. none k (omega arith)) (omega arith) in
    let h : n < length s = omega arith in
    let z : n + 1 ≡ suc n = omega arith in
    subst (Begun s) z (
      marked_next s n ∙ not_marked (get_or (0 ∷ 0 ∷ s) n 0) (get_or (0 ∷ s) n 0) (get_or s n 0) (none n (omega arith)),
      well_kept s n w.0 h ∙ w.1,
      omega (arith, ap length (unstuff_kept s n w.0 h), w.2),
    )
