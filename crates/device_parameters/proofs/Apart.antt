-- IDs of which none stands twice and none is above 252 are 253 at the most: each marks a place of its own.
use mathlib.Core.Path.{◌≡◌, refl}
use mathlib.Core.Bool.{Bool, true, false, cond, ◌||◌}
use mathlib.Core.List.{List, [], ◌∷◌}
use Prim.Native.Nat.{ℕ, zero, suc, ◌+◌, ◌≤◌, ◌<◌}
use native.Mathlib.Omega.{arith}
use lib.Dec.{eqb}
use lib.ListN.{length}
use borrow.Author.Tests.{ne_eqb, eqb-true, eqb-false}
use Rattle.device_parameters.specs.Entries.{occurs}

-- how many of the numbers below n stand in the list
unfoldable marked : ℕ → List ℕ → ℕ
marked zero ids = 0
marked (suc n) ids = cond (occurs n ids) 1 0 + marked n ids

marked_few : (n : ℕ) (ids : List ℕ) → marked n ids ≤ n
unfolding marked
marked_few zero ids = omega arith
marked_few (suc n) ids = by_test (marked_few n ids) (occurs n ids)
  where
    by_test : marked n ids ≤ n → (b : Bool) → cond b 1 0 + marked n ids ≤ suc n
    by_test l true = omega arith
    by_test l false = omega arith

-- a number at n or above marks nothing below n
marked_past : (n x : ℕ) (ids : List ℕ) → n ≤ x → marked n (x ∷ ids) ≡ marked n ids
unfolding occurs marked
marked_past zero x ids l = refl
marked_past (suc n) x ids l = rw (ne_eqb n x (λ e. omega arith), marked_past n x ids (omega arith))

-- and one below it that does not stand yet marks one place
marked_next : (n x : ℕ) (ids : List ℕ) → x < n → occurs x ids ≡ false → marked n (x ∷ ids) ≡ suc (marked n ids)
unfolding occurs marked
marked_next zero x ids l f = absurd (omega arith)
marked_next (suc n) x ids l f = by_test (λ h. marked_next n x ids h f) (eqb n x) refl
  where
    by_test : (x < n → marked n (x ∷ ids) ≡ suc (marked n ids)) → (b : Bool) → eqb n x ≡ b
        → cond (b || occurs n ids) 1 0 + marked n (x ∷ ids) ≡ suc (cond (occurs n ids) 1 0 + marked n ids)
    by_test later true e =
        let i = eqb-true n x e in
        let p = marked_past n x ids (omega arith) in
        rw (i, f) (omega (arith, rw i at p))
    by_test later false e = let o = eqb-false n x e in rw (later (omega arith)) (omega arith)

pub record Apart (ids : List ℕ) : Type 0 where
  each_marks : length ids ≤ marked 253 ids

pub none_apart : Apart []
none_apart = record { each_marks = omega arith }

pub apart_next : (x : ℕ) (ids : List ℕ) → Apart ids → x ≤ 252 → occurs x ids ≡ false → Apart (x ∷ ids)
apart_next x ids d l f = record { each_marks = rw (marked_next 253 x ids (omega arith) f) (let h = d.each_marks in omega arith) }

pub apart_few : (ids : List ℕ) → Apart ids → length ids ≤ 253
apart_few ids d = let h = d.each_marks in let m = marked_few 253 ids in omega arith
