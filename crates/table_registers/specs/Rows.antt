-- The registers as the code has them.
use Rattle.std.specs.Prelude.{Bool, cond, ◌||◌, List, [], ◌∷◌, ℕ, eqb, ℤ, pos, Option, None, Some}
use Rattle.table_registers.specs.Registers.{Register, Access, read_only, read_write, Area, rom, ram, registers, holds}
use Rattle.table_registers.specs.declared.Access.{Access as Permitted}
use Rattle.table_registers.specs.declared.Access.TheVariants.{Read, RomWrite, RamWrite}
use Rattle.table_registers.specs.declared.Row.{Row}

abbrev pub lowest : Access → ℤ
lowest read_only = pos 0
lowest (read_write low high) = low

abbrev pub highest : Access → ℤ
highest read_only = pos 0
highest (read_write low high) = high

-- what the bytes permit, as the code names it
abbrev pub permitted : Access → Area → Permitted
permitted read_only area = Read
permitted (read_write low high) rom = RomWrite
permitted (read_write low high) ram = RamWrite

abbrev pub row_of : Register → Row
row_of r =
    record {
      start = r.address;
      bytes = r.bytes;
      permits = permitted r.access r.area;
      low = lowest r.access;
      high = highest r.access;
    }

-- the row of the register that has the byte at a, if there is one
unfoldable pub row_in : List Register → ℕ → Option Row
row_in [] a = None
row_in (r ∷ rs) a = cond (holds r a) (Some (row_of r)) (row_in rs a)

abbrev pub row_at : ℕ → Option Row
row_at a = row_in registers a

-- what the code relies on: a register that can be written has one byte or four
abbrev pub one_or_four : ℕ → Bool
one_or_four n = eqb n 1 || eqb n 4
