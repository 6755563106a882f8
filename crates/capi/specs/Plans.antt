-- What the test of a plan answers to C.
use Rattle.std.specs.Prelude.{Err, None, Option, Some}
use Rattle.std.specs.Prelude.{◌≡◌, List, ◌⊎◌, ℕ, ℤ, pos}
use Rattle.answers.specs.Answers.{exported}
use Rattle.answers.specs.declared.Refusal.{Refusal}
use Rattle.plan.specs.Goals.{goals_refusal}
use Rattle.plan.specs.Plan.{Plan}

-- minus the number of a refusal; else 1 exactly where the bytes are a plan of the goals, and 0 where they are none [W2 W9]
abbrev pub SaysBy : Option Refusal → List ℤ → List ℕ → ℤ → Type 0
SaysBy None goals bytes r = ((r ≡ pos 1) × Plan goals bytes) ⊎ ((r ≡ pos 0) × (¬ Plan goals bytes))
SaysBy (Some refusal) goals bytes r = r ≡ exported (Err refusal)

abbrev pub CheckSays : List ℤ → List ℕ → ℤ → Type 0
CheckSays goals bytes r = SaysBy (goals_refusal goals) goals bytes r
