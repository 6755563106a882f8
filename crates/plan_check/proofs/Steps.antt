-- One ID: what its entry says, and what has stood of it at the end.
use mathlib.Core.Path.{◌≡◌, refl, sym, ap, subst}
use mathlib.Core.Bool.{Bool, true, false, not, cond, ◌&&◌}
use mathlib.Core.List.{List, [], ◌∷◌, ◌++◌}
use mathlib.Core.Logic.{⊎_elim}
use Prim.Native.Nat.{ℕ, ◌+◌, ◌<◌}
use native.Mathlib.Nat.{le_of_suc-le-suc, eq-or-lt_of_le}
use native.Mathlib.Numerals.{add-one}
use native.Mathlib.Omega.{arith}
use lib.Dec.{eqb}
use lib.IntN.{ℤ, pos, negsuc}
use lib.ListN.{length, get_or}
use lib.Signed.{le_z}
use borrow.Author.Tests.{eqb-true, eqb-false, leb-false}
use Rattle.lists.proofs.Bools.{both_ways}
use Rattle.plan.specs.Goals.{unwanted, goal_of, wanted}
use Rattle.plan.proofs.Wanted.{goal_there}
use Rattle.plan_check.specs.Checking.{fits, past_by, past}

-- one that may stand completes what is wanted
pub completes : (g : ℤ) (stood : Bool) (u : ℕ) → fits g stood u ≡ true → past_by g stood ++ (u ∷ []) ≡ goal_of g
completes (negsuc n) stood u e = both_ways false e refl
completes (pos n) stood u e = by_tests stood (eqb u n) refl e
  where
    by_tests : (a b : Bool) → eqb u n ≡ b → (not a && b) ≡ true → cond a (n ∷ []) [] ++ (u ∷ []) ≡ n ∷ []
    by_tests false true j e = ap (λ (k : ℕ). k ∷ []) (eqb-true u n j)
    by_tests false false j e = both_ways false e refl
    by_tests true b j e = both_ways false e refl

-- and any other one never does, whatever follows
pub clashes : (g : ℤ) (stood : Bool) (u : ℕ) (more : List ℕ) → fits g stood u ≡ false → ¬ (past_by g stood ++ (u ∷ more) ≡ goal_of g)
clashes (negsuc n) stood u more e = by_mark stood
  where
    by_mark : (b : Bool) → ¬ (cond b [] [] ++ (u ∷ more) ≡ [])
    by_mark true d = absurd (omega (arith, ap length d))
    by_mark false d = absurd (omega (arith, ap length d))
clashes (pos n) stood u more e = by_tests stood (eqb u n) refl e
  where
    by_tests : (a b : Bool) → eqb u n ≡ b → (not a && b) ≡ false → ¬ (cond a (n ∷ []) [] ++ (u ∷ more) ≡ n ∷ [])
    by_tests false true j e d = both_ways true refl e
    by_tests false false j e d = eqb-false u n j (ap (λ (l : List ℕ). get_or l 0 0) d)
    by_tests true b j e d = absurd (omega (arith, ap length d))

-- what holds below k and at k
pub below_next : (P : ℕ → Type 0) (k : ℕ) → ((id : ℕ) → id < k → P id) → P k → (id : ℕ) → id < k + 1 → P id
below_next P k f here id h =
    ⊎_elim (λ e. subst P (sym e) here) (λ l. f id l) (eq-or-lt_of_le (le_of_suc-le-suc (rw add-one at h)))

-- at the end, of an ID that the list has
module _ (goals : List ℤ) (stood : List Bool) (id : ℕ) where
  pub needed_stood : get_or stood id false ≡ true → past goals stood id ≡ wanted goals id
  needed_stood e = rw e

  module _ (h : id < length goals) where
    by_goal : (P : ℤ → Type 0) → P (get_or goals id (pos 0)) → P (get_or goals id unwanted)
    by_goal P p = subst P (goal_there goals id (pos 0) unwanted h) p

    pub none_needed : le_z (pos 0) (get_or goals id (pos 0)) ≡ false → past goals stood id ≡ wanted goals id
    none_needed e = by_goal (λ g. past_by g (get_or stood id false) ≡ goal_of g) (by_sign (get_or goals id (pos 0)) e)
      where
        by_mark : (b : Bool) → cond {A = List ℕ} b [] [] ≡ []
        by_mark true = refl
        by_mark false = refl

        by_sign : (g : ℤ) → le_z (pos 0) g ≡ false → past_by g (get_or stood id false) ≡ goal_of g
        by_sign (pos n) e = absurd (omega (arith, leb-false 0 n e))
        by_sign (negsuc n) e = by_mark (get_or stood id false)
