-- What the test of a plan answers.
use Rattle.std.specs.Prelude.{None, Some, Result, Ok, Err}
use Rattle.std.specs.Prelude.{◌≡◌, Bool, true, false, List, ℕ, ℤ}
use Rattle.plan.specs.Goals.{goals_refusal}
use Rattle.plan.specs.Plan.{Plan}
use Rattle.answers.specs.declared.Refusal.{Refusal}

-- a test that says true where the statement holds, and false where it does not
abbrev pub SaysWhether : Bool → Type 0 → Type 0
SaysWhether true P = P
SaysWhether false P = ¬ P

-- the answer is a refusal where the goals are refused; else it says whether the bytes are a plan [W2 W9]
abbrev pub TestSays : List ℤ → List ℕ → Result Bool Refusal → Type 0
TestSays goals bytes (Ok is_plan) = (goals_refusal goals ≡ None) × SaysWhether is_plan (Plan goals bytes)
TestSays goals bytes (Err refusal) = goals_refusal goals ≡ Some refusal
