-- The limits of the position in a table.
use Rattle.std.specs.Prelude.{cond, List, ℕ, eqb, pos, length}
use Rattle.table_registers.specs.Registers.{table_size, min_position, max_position}
use Rattle.table_items.specs.Items.{value_of}
use Rattle.table_rules.specs.declared.PositionLimits.{PositionLimits}

-- [D48]
abbrev pub limits_of : List ℕ → PositionLimits
limits_of table = record { min = value_of min_position table; max = value_of max_position table }

-- a table of another size has none [D48]
abbrev pub limits_in : List ℕ → PositionLimits
limits_in table = cond (eqb (length table) table_size) (limits_of table) (record { min = pos 0; max = pos 0 })
