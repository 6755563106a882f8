-- The register list of the control table, and what is read off it. An item is the register's bytes in a table.
use Rattle.std.specs.Prelude.{Bool, true, false, cond, ◌&&◌, List, [], ◌∷◌, ℕ, zero, suc, ◌+◌, leb, ltb, ℤ, pos, neg_ℤ}

pub data Area : Type 0 where
  rom : Area
  ram : Area

-- a register that can be written has a range, its ends included
pub data Access : Type 0 where
  read_only : Access
  read_write : ℤ → ℤ → Access

abbrev pub writable : Access → Bool
writable read_only = false
writable (read_write low high) = true

pub record Register : Type 0 where
  pub address : ℕ
  pub bytes : ℕ
  pub access : Access
  pub area : Area
  pub fresh : ℕ

abbrev pub register : ℕ → ℕ → Access → Area → ℕ → Register
register address bytes access area fresh =
    record { address = address; bytes = bytes; access = access; area = area; fresh = fresh }

abbrev pub minus : ℕ → ℤ
minus n = neg_ℤ (pos n)

-- Address, bytes, access with the range, area, fresh value.

abbrev pub model_number : Register
model_number = register 0 2 read_only rom 1030

abbrev pub firmware_version : Register
firmware_version = register 6 1 read_only rom 38

abbrev pub device_id : Register
device_id = register 7 1 (read_write (pos 0) (pos 252)) rom 1

abbrev pub baud_code : Register
baud_code = register 8 1 (read_write (pos 0) (pos 7)) rom 1

abbrev pub homing_offset : Register
homing_offset = register 20 4 (read_write (minus 1044479) (pos 1044479)) rom 0

abbrev pub max_position : Register
max_position = register 48 4 (read_write (pos 0) (pos 4095)) rom 4095

abbrev pub min_position : Register
min_position = register 52 4 (read_write (pos 0) (pos 4095)) rom 0

abbrev pub torque_enable : Register
torque_enable = register 64 1 (read_write (pos 0) (pos 1)) ram 0

abbrev pub lamp : Register
lamp = register 65 1 (read_write (pos 0) (pos 1)) ram 0

abbrev pub status_return_level : Register
status_return_level = register 68 1 (read_write (pos 0) (pos 2)) ram 2

abbrev pub registered_instruction : Register
registered_instruction = register 69 1 read_only ram 0

abbrev pub hardware_error : Register
hardware_error = register 70 1 read_only ram 0

abbrev pub goal_velocity : Register
goal_velocity = register 104 4 (read_write (minus 330) (pos 330)) ram 0

abbrev pub goal_position : Register
goal_position = register 116 4 (read_write (pos 0) (pos 4095)) ram 0

abbrev pub present_position : Register
present_position = register 132 4 read_only ram 0

-- [G3 T2]
unfoldable pub registers : List Register
registers =
    model_number
    ∷ firmware_version
    ∷ device_id
    ∷ baud_code
    ∷ homing_offset
    ∷ max_position
    ∷ min_position
    ∷ torque_enable
    ∷ lamp
    ∷ status_return_level
    ∷ registered_instruction
    ∷ hardware_error
    ∷ goal_velocity
    ∷ goal_position
    ∷ present_position
    ∷ []

-- the byte count of a control table [T1]
abbrev pub table_size : ℕ
table_size = 136

-- the address after the register's last byte
abbrev pub end_of : Register → ℕ
end_of r = r.address + r.bytes

-- the register has the byte at a
abbrev pub holds : Register → ℕ → Bool
holds r a = leb r.address a && ltb a (end_of r)

-- What the bytes of a register permit: 1 reading, 2 writing while torque is off, 3 writing at any time. [T8]
abbrev pub grant : Access → Area → ℕ
grant read_only area = 1
grant (read_write low high) rom = 2
grant (read_write low high) ram = 3

-- what the byte at a permits: 0, which is nothing, where no register has it
unfoldable pub permits_by : List Register → ℕ → ℕ
permits_by [] a = 0
permits_by (r ∷ rs) a = cond (holds r a) (grant r.access r.area) (permits_by rs a)

-- [T8]
abbrev pub permits : ℕ → ℕ
permits a = permits_by registers a

-- each of the n bytes from `a` on permits at least so much [T8 T16]
unfoldable pub every_byte : ℕ → ℕ → ℕ → Bool
every_byte least a zero = true
every_byte least a (suc n) = leb least (permits a) && every_byte least (suc a) n
