-- A fresh table, and what the measurement call makes of one.
use Rattle.std.specs.Prelude.{List, [], ◌∷◌, ℕ, ℤ, replicate}
use Rattle.table_registers.specs.Registers.{Register, registers, table_size, present_position, hardware_error}
use Rattle.table_items.specs.Items.{unsigned, put}

-- the table with the fresh value of each register of a list, one after the other [T4]
unfoldable pub freshened : List Register → List ℕ → List ℕ
freshened [] table = table
freshened (r ∷ rs) table = freshened rs (put table r r.fresh)

-- undefined bytes are 0 [T4]
abbrev pub fresh_table : List ℕ
fresh_table = freshened registers (replicate table_size 0)

-- [T5]
abbrev pub measured : List ℕ → ℤ → ℕ → List ℕ
measured table position error = put (put table present_position (unsigned position)) hardware_error error
