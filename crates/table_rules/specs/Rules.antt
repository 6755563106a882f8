-- The read rule and the write rule, by stages. A stage looks at all touched bytes or items before the next one comes, and the
-- first that applies refuses. Error numbers: 04 data range, 05 data length, 06 data limit, 07 access.
use Rattle.std.specs.Prelude.{Option}
use Rattle.std.specs.Prelude.{Bool, true, not, cond, ◌&&◌, ◌||◌, List, [], ◌∷◌, ℕ, ◌+◌, leb, ltb, eqb, length, get_or}
use Rattle.std.specs.Int.Signed.{le_z}
use Rattle.answers.specs.Refusals.{first_failing}
use Rattle.lists.specs.Write.{placed}
use Rattle.table_registers.specs.Registers.{Register, registers, end_of, every_byte, torque_enable, min_position, max_position, goal_position}
use Rattle.table_items.specs.Items.{value_of, value_in_range}

-- the n bytes from `a` on have a byte of the register [T9]
abbrev pub touches : ℕ → ℕ → Register → Bool
touches a n r = ltb r.address (a + n) && ltb a (end_of r)

-- they have all its bytes [T9]
abbrev pub covers : ℕ → ℕ → Register → Bool
covers a n r = leb a r.address && leb (end_of r) (a + n)

-- each register that is touched passes the test [T6 T9]
unfoldable pub every_touched : ℕ → ℕ → (Register → Bool) → List Register → Bool
every_touched a n test [] = true
every_touched a n test (r ∷ rs) = (not (touches a n r) || test r) && every_touched a n test rs

-- what a touched byte has to permit: while torque is not 0 no byte of ROM is written [T8]
abbrev pub least_to_write : List ℕ → ℕ
least_to_write table = cond (eqb (get_or table torque_enable.address 0) 0) 2 3

-- the n bytes from `a` on have a byte of a limit of the position, or of the goal position [T11 T14]
abbrev pub touches_limits : ℕ → ℕ → Bool
touches_limits a n = touches a n min_position || touches a n max_position || touches a n goal_position

-- the goal position is not below min position and not above max position [T11 T20]
unfoldable pub goal_inside : List ℕ → Bool
goal_inside table =
    le_z (value_of min_position table) (value_of goal_position table) && le_z (value_of goal_position table) (value_of max_position table)

-- where one of the three was written, the new table has it so [T11 T14]
unfoldable pub limits_kept : ℕ → ℕ → List ℕ → Bool
limits_kept a n new = not (touches_limits a n) || goal_inside new

-- the table that a write leaves if it is good [T11 T12]
abbrev pub stored : List ℕ → ℕ → List ℕ → List ℕ
stored table address bytes = placed table address bytes

-- the stages of the write rule in their order, each with the error number where its test fails [T6 T7]
unfoldable pub write_rule : List ℕ → ℕ → List ℕ → Option ℕ
write_rule table address bytes =
    let n = length bytes in
    let new = stored table address bytes in
    first_failing
    ((ltb 0 n, 0x05)
    ∷ (every_byte (least_to_write table) address n, 0x07)
    ∷ (every_touched address n (covers address n) registers, 0x05)
    ∷ (every_touched address n (value_in_range new) registers, 0x04)
    ∷ (limits_kept address n new, 0x06)
    ∷ [])

-- a byte has to permit reading [T15 T16]
unfoldable pub read_rule : ℕ → ℕ → Option ℕ
read_rule address n = first_failing ((ltb 0 n, 0x05) ∷ (every_byte 1 address n, 0x07) ∷ [])
