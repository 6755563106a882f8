-- Up to two bytes before the first FD nothing is left out, and what follows is as if it stood alone; and where there is no FD nothing is
-- left out at all.
use mathlib.Core.Path.{◌≡◌, refl, sym, ap, subst, ◌∙◌}
use mathlib.Core.List.{List, [], ◌∷◌, ◌++◌}
use Prim.Native.Nat.{ℕ, zero, suc, ◌+◌, ◌-◌, ◌≤◌}
use native.Mathlib.Omega.{arith}
use lib.ListN.{length, take, drop}
use Rattle.stuffing.specs.Stuffing.{unstuff_after, unstuff, NoFd}
use Rattle.stuffing.proofs.Plain.{not_marked}
use Rattle.stuffing_in_place.specs.Plain.{Plain}

-- which bytes stood before makes no difference
fresh_start : (a b c d e : ℕ) (s : List ℕ) → ¬ (c ≡ 0xFD) → ¬ (d ≡ 0xFD) → ¬ (e ≡ 0xFD) → unstuff_after a b c (d ∷ e ∷ s) ≡ unstuff (d ∷ e ∷ s)
unfolding unstuff_after
fresh_start a b c d e s nc nd ne = by s
  where
    by : (s : List ℕ) → unstuff_after a b c (d ∷ e ∷ s) ≡ unstuff (d ∷ e ∷ s)
    by [] = rw (not_marked a b c nc, not_marked b c d nd) refl
    by (x ∷ s) = rw (not_marked a b c nc, not_marked b c d nd, not_marked c d e ne) refl

first_kept : (a b c d : ℕ) (s : List ℕ) → ¬ (c ≡ 0xFD) → unstuff_after a b c (d ∷ s) ≡ d ∷ unstuff_after b c d s
unfolding unstuff_after
first_kept a b c d s nc = rw (not_marked a b c nc) refl

plain_from : (n a b c : ℕ) (s : List ℕ) → ¬ (c ≡ 0xFD) → NoFd s (n + 2) → n + 2 ≤ length s → unstuff_after a b c s ≡ take n s ++ unstuff (drop n s)
plain_from n a b c [] nc none l = absurd (omega arith)
plain_from zero a b c (d ∷ []) nc none l = absurd (omega arith)
plain_from zero a b c (d ∷ e ∷ s) nc none l = fresh_start a b c d e s nc (none 0 (omega arith)) (none 1 (omega arith))
plain_from (suc n) a b c (d ∷ s) nc none l =
    first_kept a b c d s nc
    ∙ ap (λ (t : List ℕ). d ∷ t) (plain_from n b c d s (none 0 (omega arith)) (λ k h. none (suc k) (omega arith)) (omega arith))

pub plain : (s : List ℕ) (n : ℕ) → NoFd s (n + 2) → n + 2 ≤ length s → Plain s n
plain s n none l = (omega arith, plain_from n 0 0 0 s (λ z. absurd (omega (arith, z))) none l)

whole_from : (a b c : ℕ) (s : List ℕ) → ¬ (c ≡ 0xFD) → NoFd s (length s) → unstuff_after a b c s ≡ take (length s) s ++ unstuff (drop (length s) s)
unfolding unstuff_after
whole_from a b c [] nc none = refl
whole_from a b c (d ∷ s) nc none =
    first_kept a b c d s nc
    ∙ ap (λ (t : List ℕ). d ∷ t) (whole_from b c d s (none 0 (omega arith)) (λ k h. none (suc k) (omega arith)))

pub plain_whole : (s : List ℕ) (n : ℕ) → n ≡ length s → NoFd s n → Plain s n
plain_whole s n e none = (
  omega arith,
  subst (λ (m : ℕ). unstuff s ≡ take m s ++ unstuff (drop m s)) (sym e)
      (whole_from 0 0 0 s (λ z. absurd (omega (arith, z))) (λ k h. none k (omega arith))),
)

pub plain_0 : (s : List ℕ) → Plain s 0
plain_0 s = (omega arith, refl)

pub plain_before : (s : List ℕ) (r : ℕ) → r ≤ length s → NoFd s r → Plain s (r - 2)
plain_before s zero l none = plain_0 s
plain_before s (suc zero) l none = plain_0 s
plain_before s (suc (suc r)) l none =
    let e : suc (suc r) - 2 ≡ r = omega arith in
    rw e (plain s r (λ k h. none k (omega arith)) (omega arith))
