-- Laws of the wanted goals.
use Rattle.std.specs.Prelude.{None}
use mathlib.Core.Path.{◌≡◌, refl, ap}
use mathlib.Core.Bool.{Bool, true, ◌&&◌}
use mathlib.Core.List.{List, [], ◌∷◌}
use Prim.Native.Nat.{ℕ, zero, suc, ◌<◌}
use native.Mathlib.Omega.{arith}
use lib.Dec.{eqb}
use lib.IntN.{ℤ}
use lib.ListN.{length, get_or}
use borrow.Author.Tests.{eqb-true}
use Rattle.answers.specs.declared.Refusal.TheVariants.{NotGoals, BadGoal}
use Rattle.answers.proofs.Laws.{passed}
use Rattle.lists.proofs.Bools.{and_left, and_right}
use Rattle.std.specs.List.{list_all}
use Rattle.plan.specs.Goals.{unwanted, goal_within, goals_within, goals_refusal}

pub within_all : (goals : List ℤ) → list_all goal_within goals ≡ goals_within goals
unfolding goals_within
within_all [] = refl
within_all (g ∷ goals) = ap (λ (b : Bool). goal_within g && b) (within_all goals)

-- an ID that the list has
pub goal_there : (goals : List ℤ) (id : ℕ) (d e : ℤ) → id < length goals → get_or goals id d ≡ get_or goals id e
goal_there [] id d e h = absurd (omega arith)
goal_there (g ∷ goals) zero d e h = refl
goal_there (g ∷ goals) (suc id) d e h = goal_there goals id d e (omega arith)

pub goals_counted : (goals : List ℤ) → goals_refusal goals ≡ None → length goals ≡ 253
unfolding goals_refusal
goals_counted goals e = eqb-true (length goals) 253 (passed (eqb (length goals) 253) NotGoals _ e).0

pub goals_within_lem : (goals : List ℤ) → goals_refusal goals ≡ None → goals_within goals ≡ true
unfolding goals_refusal
goals_within_lem goals e = (passed (goals_within goals) BadGoal None (passed (eqb (length goals) 253) NotGoals _ e).1).0

-- any number of the list; past it none is wanted
pub within_at : (goals : List ℤ) (id : ℕ) → goals_within goals ≡ true → goal_within (get_or goals id unwanted) ≡ true
unfolding goals_within
within_at [] id w = refl
within_at (g ∷ goals) zero w = and_left (goal_within g) (goals_within goals) w
within_at (g ∷ goals) (suc id) w = within_at goals id (and_right (goal_within g) (goals_within goals) w)
