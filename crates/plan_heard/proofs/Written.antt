-- A write of four bytes at 116: nothing but the stored limits can refuse a goal that a plan may have.
use mathlib.Core.Path.{◌≡◌, refl, ◌∙◌}
use mathlib.Core.Bool.{Bool, true, false, cond}
use mathlib.Core.List.{List, [], ◌∷◌}
use Prim.Native.Nat.{ℕ, ◌+◌, ◌≤◌, ◌^◌}
use native.Mathlib.Omega.{arith}
use lib.Dec.{eqb, ltb}
use lib.IntN.{pos}
use lib.ListN.{length, get_or}
use borrow.Author.Tests.{lt-ltb, le-leb}
use Rattle.answers.specs.Refusals.{first_failing}
use Rattle.lists.specs.Numbers.{number_at}
use Rattle.table_registers.specs.Registers.{registers, permits_by, every_byte, table_size, torque_enable, min_position, max_position, goal_position}
use Rattle.table_items.specs.Items.{value_of, value_in_range}
use Rattle.table_items.proofs.Signed.{value_word}
use Rattle.table_rules.specs.Rules.{every_touched, covers, least_to_write, goal_inside, limits_kept, stored, write_rule}
use Rattle.table_rules.proofs.Stored.{value_at_lem, value_kept}
use Rattle.plan_heard.specs.PlanCarriedOut.{admits}

-- whether torque is on or off, since the goal position is not in ROM
permitted : (table : List ℕ) → every_byte (least_to_write table) 116 4 ≡ true
unfolding every_byte permits_by registers
permitted table = by_torque (eqb (get_or table torque_enable.address 0) 0)
  where
    by_torque : (b : Bool) → every_byte (cond b 2 3) 116 4 ≡ true
    by_torque true = refl
    by_torque false = refl

covered : every_touched 116 4 (covers 116 4) registers ≡ true
unfolding every_touched registers
covered = refl

-- the stages of the write rule for four bytes there
stages : (table new : List ℕ) (n : ℕ) (b : Bool) → n ≡ 4 → every_touched 116 4 (value_in_range new) registers ≡ true → limits_kept 116 4 new ≡ b
    → first_failing {R = ℕ}
    ((ltb 0 n, 0x05)
    ∷ (every_byte (least_to_write table) 116 n, 0x07)
    ∷ (every_touched 116 n (covers 116 n) registers, 0x05)
    ∷ (every_touched 116 n (value_in_range new) registers, 0x04)
    ∷ (limits_kept 116 n new, 0x06)
    ∷ [])
    ≡ first_failing {R = ℕ} ((b, 0x06) ∷ [])
stages table new n b e ranges limits = rw (e, permitted table, covered, ranges, limits)

module _ (table bytes : List ℕ) (goal : ℕ) (sized : length table ≡ table_size) (four : length bytes ≡ 4) (is : number_at bytes 0 4 ≡ goal)
    (low : goal ≤ 4095) where
  fits : 116 + length bytes ≤ length table
  fits = omega arith

  pub goal_is : value_of goal_position (stored table 116 bytes) ≡ pos goal
  goal_is =
      value_at_lem table 116 bytes fits 0 4 (omega arith)
      ∙ value_word bytes 0 4 refl
      ∙ rw (is, lt-ltb goal (2 ^ 31) (omega arith))

  inside_is : goal_inside (stored table 116 bytes) ≡ admits table goal
  unfolding goal_inside
  inside_is =
      rw (
        value_kept table 116 bytes fits min_position (rw four refl),
        value_kept table 116 bytes fits max_position (rw four refl),
        goal_is,
      )

  in_range_lem : every_touched 116 4 (value_in_range (stored table 116 bytes)) registers ≡ true
  unfolding every_touched registers
  in_range_lem = rw (goal_is, le-leb 0 goal (omega arith), le-leb goal 4095 low)

  limits_are : limits_kept 116 4 (stored table 116 bytes) ≡ admits table goal
  unfolding limits_kept
  limits_are = inside_is

  pub rule_is : write_rule table 116 bytes ≡ first_failing {R = ℕ} ((admits table goal, 0x06) ∷ [])
  unfolding write_rule
  rule_is = stages table (stored table 116 bytes) (length bytes) (admits table goal) four in_range_lem limits_are
