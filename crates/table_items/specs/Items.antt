-- The numbers in a control table: four bytes are a signed number in two's complement.
use Rattle.std.specs.Prelude.{Bool, true, cond, ◌&&◌, List, ℕ, ◌-◌, ◌^◌, ltb, eqb, ℤ, pos, negsuc, take, drop}
use Rattle.std.specs.Int.Signed.{le_z}
use Rattle.lists.specs.Write.{placed}
use Rattle.lists.specs.Numbers.{number_at, bytes_of}
use Rattle.table_registers.specs.Registers.{Register, Access, read_only, read_write}

-- a number of 32 bits as a signed one: `negsuc n` is -(n + 1) [T3]
abbrev pub signed : ℕ → ℤ
signed u = cond (ltb u (2 ^ 31)) (pos u) (negsuc (2 ^ 32 - 1 - u))

-- and the way back [T3]
abbrev pub unsigned : ℤ → ℕ
unsigned (pos n) = n
unsigned (negsuc n) = 2 ^ 32 - 1 - n

-- two numbers are the same [D49]
abbrev pub same : ℤ → ℤ → Bool
same a b = le_z a b && le_z b a

-- the bytes of an item
abbrev pub item_bytes : Register → List ℕ → List ℕ
item_bytes r table = take r.bytes (drop r.address table)

-- the value of the item of n bytes at `a` [T3]
unfoldable pub value_at : List ℕ → ℕ → ℕ → ℤ
value_at table a n = cond (eqb n 4) (signed (number_at table a n)) (pos (number_at table a n))

abbrev pub value_of : Register → List ℕ → ℤ
value_of r table = value_at table r.address r.bytes

-- [T10]
abbrev pub in_range : Access → ℤ → Bool
in_range read_only value = true
in_range (read_write low high) value = le_z low value && le_z value high

-- [T10]
abbrev pub value_in_range : List ℕ → Register → Bool
value_in_range table r = in_range r.access (value_of r table)

-- the table with a number in the place of a register
unfoldable pub put : List ℕ → Register → ℕ → List ℕ
put table r u = placed table r.address (bytes_of r.bytes u)
