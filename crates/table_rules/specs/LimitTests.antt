-- The stage 06 in the words of the papers: three tests, which are together what `limits_kept` says in one.
use Rattle.std.specs.Prelude.{◌≡◌, Bool, not, ◌&&◌, ◌||◌, List, ℕ}
use Rattle.std.specs.Int.Signed.{le_z}
use Rattle.table_registers.specs.Registers.{min_position, max_position, goal_position}
use Rattle.table_items.specs.Items.{value_of}
use Rattle.table_rules.specs.Rules.{touches, goal_inside, limits_kept}

-- a limit was written
abbrev pub limit_touched : ℕ → ℕ → Bool
limit_touched a n = touches a n min_position || touches a n max_position

-- then min position is not above max position [T19]
abbrev pub limits_ordered : ℕ → ℕ → List ℕ → Bool
limits_ordered a n new = not (limit_touched a n) || le_z (value_of min_position new) (value_of max_position new)

-- a goal position that was written lies between the limits [T19]
abbrev pub written_goal_inside : ℕ → ℕ → List ℕ → Bool
written_goal_inside a n new = not (touches a n goal_position) || goal_inside new

-- and where a limit was written, so does the goal position that is stored [T19]
abbrev pub stored_goal_inside : ℕ → ℕ → List ℕ → Bool
stored_goal_inside a n new = not (limit_touched a n) || goal_inside new

-- [T19]
abbrev pub LimitTests : Type 0
LimitTests =
    (a n : ℕ) (new : List ℕ)
    → limits_kept a n new ≡ (limits_ordered a n new && (written_goal_inside a n new && stored_goal_inside a n new))
