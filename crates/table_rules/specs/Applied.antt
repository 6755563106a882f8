-- The three tests of stage 06, applied to tables that fail one each, and to one that no limit and no goal was written to.
use Rattle.std.specs.Prelude.{◌≡◌, true, false, List, ℕ, replicate}
use Rattle.table_registers.specs.Registers.{min_position, max_position, goal_position}
use Rattle.table_items.specs.Items.{put}
use Rattle.table_rules.specs.Rules.{limits_kept}
use Rattle.table_rules.specs.LimitTests.{LimitTests}

-- a table with these numbers, and 0 elsewhere
abbrev pub having : ℕ → ℕ → ℕ → List ℕ
having min max goal = put (put (put (replicate 136 0) min_position min) max_position max) goal_position goal

abbrev pub LimitTestsApplied : Type 0
LimitTestsApplied =
    LimitTests
    -- min position above max position, both written
    → (limits_kept 48 8 (having 200 100 150) ≡ false)
    -- a goal position outside them, written
    × (limits_kept 116 4 (having 0 4000 4001) ≡ false)
    -- min position above the goal position that is stored
    × (limits_kept 52 4 (having 513 4095 512) ≡ false)
    -- a goal velocity
    × (limits_kept 104 4 (having 513 4095 512) ≡ true)
