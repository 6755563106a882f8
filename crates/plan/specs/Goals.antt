-- The wanted goals: 253 signed numbers, one for each ID, in which -1 says that none is wanted.
use Rattle.std.specs.Prelude.{Option}
use Rattle.std.specs.Prelude.{Bool, true, ◌&&◌, List, [], ◌∷◌, ℕ, eqb, ℤ, pos, negsuc, length, get_or}
use Rattle.std.specs.Int.Signed.{le_z}
use Rattle.answers.specs.Refusals.{first_failing}
use Rattle.answers.specs.declared.Refusal.{Refusal}
use Rattle.answers.specs.declared.Refusal.TheVariants.{NotGoals, BadGoal}

-- -1 [W1]
abbrev pub unwanted : ℤ
unwanted = negsuc 0

-- the goal, where one is wanted [W1]
abbrev pub goal_of : ℤ → List ℕ
goal_of (pos n) = n ∷ []
goal_of (negsuc n) = []

-- what is wanted of an ID: a goal, or nothing [W1]
abbrev pub wanted : List ℤ → ℕ → List ℕ
wanted goals id = goal_of (get_or goals id unwanted)

abbrev pub goal_within : ℤ → Bool
goal_within g = le_z unwanted g && le_z g (pos 4095)

-- no number is below -1 or above 4,095 [W2]
unfoldable pub goals_within : List ℤ → Bool
goals_within [] = true
goals_within (g ∷ gs) = goal_within g && goals_within gs

-- [N19 N20 W2]
unfoldable pub goals_refusal : List ℤ → Option Refusal
goals_refusal goals = first_failing ((eqb (length goals) 253, NotGoals) ∷ (goals_within goals, BadGoal) ∷ [])
