-- The goal position between the limits: what a write leaves of that.
use mathlib.Core.Path.{◌≡◌, refl, ap, ◌∙◌}
use mathlib.Core.Bool.{Bool, true, false, not, ◌||◌}
use mathlib.Core.List.{List}
use Prim.Native.Nat.{ℕ, ◌+◌, ◌≤◌}
use lib.ListN.{length}
use Rattle.lists.proofs.Bools.{or_right, nor_left, nor_right}
use Rattle.table_registers.specs.Registers.{min_position, max_position, goal_position}
use Rattle.table_rules.specs.Rules.{touches, touches_limits, goal_inside, limits_kept, stored}
use Rattle.table_rules.proofs.Stored.{value_kept}

module _ (table : List ℕ) (address : ℕ) (bytes : List ℕ) (fits : address + length bytes ≤ length table) where
  -- a write that touches none of the three
  pub untouched : touches_limits address (length bytes) ≡ false → goal_inside (stored table address bytes) ≡ goal_inside table
  unfolding goal_inside
  untouched e =
      let low = touches address (length bytes) min_position in
      let high = touches address (length bytes) max_position in
      let goal = touches address (length bytes) goal_position in
      let neither = nor_left (low || high) goal e in
      rw (
        value_kept table address bytes fits min_position (nor_left low high neither),
        value_kept table address bytes fits max_position (nor_right low high neither),
        value_kept table address bytes fits goal_position (nor_right (low || high) goal e),
      )

  -- and one that stage 06 lets pass
  pub kept_inside : goal_inside table ≡ true → limits_kept address (length bytes) (stored table address bytes) ≡ true
      → goal_inside (stored table address bytes) ≡ true
  unfolding limits_kept
  kept_inside inside kept = by_touch (touches_limits address (length bytes)) refl
    where
      by_touch : (b : Bool) → touches_limits address (length bytes) ≡ b → goal_inside (stored table address bytes) ≡ true
      by_touch true e = or_right (not (touches_limits address (length bytes))) (goal_inside (stored table address bytes)) kept (ap not e)
      by_touch false e = untouched e ∙ inside
