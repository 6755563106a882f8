-- The registered write (the paper's held turn), with the values that the rules give it.
use Rattle.std.specs.Prelude.{None, Option, Some}
use Rattle.std.specs.Prelude.{◌≡◌, Bool, ◌&&◌, List, ℕ, pos, length, take, replicate}
use Rattle.lists.specs.Write.{padded}
use Rattle.table_registers.specs.Registers.{min_position, max_position}
use Rattle.table_items.specs.Items.{value_of, same}
use Rattle.device_instructions.specs.declared.RegisteredWrite.{RegisteredWrite}

-- a write that was judged on this table, with the limits of the position as they stand in it [D6 D7 D12 D48]
abbrev pub registering : List ℕ → ℕ → List ℕ → RegisteredWrite
registering table address bytes =
    record {
      address = address;
      count = length bytes;
      bytes = padded 8 bytes;
      min = value_of min_position table;
      max = value_of max_position table;
    }

-- a dropped one is all 0 [D7]
abbrev pub dropped : RegisteredWrite
dropped = record { address = 0; count = 0; bytes = replicate 8 0; min = pos 0; max = pos 0 }

-- a refusal leaves the older one [D13]
abbrev pub kept_by : {R : Type 0} → Option R → RegisteredWrite → RegisteredWrite → RegisteredWrite
kept_by None old new = new
kept_by (Some number) old new = old

-- [D6]
abbrev pub bytes_to_write : RegisteredWrite → List ℕ
bytes_to_write w = take w.count w.bytes

-- the limits in the table are those at which it was registered; numbers are compared, whatever was written in between [D49]
unfoldable pub same_limits : List ℕ → RegisteredWrite → Bool
same_limits table w = same (value_of min_position table) w.min && same (value_of max_position table) w.max

-- the same as equations, for statements [D49]
pub record LimitsOf (table : List ℕ) (w : RegisteredWrite) : Type 0 where
  pub same_min : w.min ≡ value_of min_position table
  pub same_max : w.max ≡ value_of max_position table
