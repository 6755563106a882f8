-- What each instruction does. How it is answered is in the crates of reactions, the reply in `device`.
use Rattle.std.specs.Prelude.{None, Option, Some}
use Rattle.std.specs.Prelude.{cond, List, [], ◌++◌, ℕ, eqb, take, drop}
use Rattle.answers.specs.Refusals.{unless_refused}
use Rattle.table_registers.specs.Registers.{model_number, firmware_version, registered_instruction}
use Rattle.table_items.specs.Items.{item_bytes, put}
use Rattle.table_rules.specs.Rules.{stored, read_rule, write_rule}
use Rattle.device_instructions.specs.Registered.{registering, dropped, bytes_to_write, same_limits, kept_by}
use Rattle.device_instructions.specs.declared.RegisteredWrite.{RegisteredWrite}
use Rattle.table_resets.specs.Resets.{rebooted, reset_rom, keeps_none, keeps_id, keeps_id_and_baud}

-- The table and the registered write that are left, the error number (0 for none) and the data of the status.
pub record Effect : Type 0 where
  pub table : List ℕ
  pub registered : RegisteredWrite
  pub error : ℕ
  pub bytes : List ℕ

abbrev pub leaving : List ℕ → RegisteredWrite → ℕ → List ℕ → Effect
leaving table w error bytes = record { table = table; registered = w; error = error; bytes = bytes }

-- a refusal changes nothing and has no data [D28]
abbrev pub refusing : List ℕ → RegisteredWrite → ℕ → Effect
refusing table w error = leaving table w error []

-- ---- instructions on registers

-- [D8]
abbrev pub ping : List ℕ → RegisteredWrite → Effect
ping table w = leaving table w 0 (item_bytes model_number table ++ item_bytes firmware_version table)

-- the error number of a refusal
abbrev pub error_of : Option ℕ → ℕ
error_of None = 0
error_of (Some error) = error

-- [D9]
unfoldable pub read : List ℕ → RegisteredWrite → ℕ → ℕ → Effect
read table w address n =
    let refusal = read_rule address n in leaving table w (error_of refusal) (unless_refused refusal [] (take n (drop address table)))

-- [D11]
unfoldable pub write : List ℕ → RegisteredWrite → ℕ → List ℕ → Effect
write table w address bytes =
    let refusal = write_rule table address bytes in
    leaving (unless_refused refusal table (stored table address bytes)) w (error_of refusal) []

-- the write is judged; a good one is kept for Action in the place of an older one, and the table says so [D12 D13]
unfoldable pub reg_write : List ℕ → RegisteredWrite → ℕ → List ℕ → Effect
reg_write table w address bytes =
    let refusal = write_rule table address bytes in
    leaving (unless_refused refusal table (put table registered_instruction 1)) (kept_by refusal w (registering table address bytes)) (error_of refusal) []

-- the registered write is dropped; it is then judged afresh, unless the limits are not those at which it was registered
-- [D14 D15 D49]
unfoldable pub action : List ℕ → RegisteredWrite → Effect
action table w =
    let cleared = put table registered_instruction 0 in
    cond (eqb w.count 0) (refusing table w 0x02)
    (cond (same_limits table w) (write cleared dropped w.address (bytes_to_write w)) (refusing cleared dropped 0x06))

-- ---- Reboot and Factory Reset

-- [D16]
abbrev pub reboot : List ℕ → RegisteredWrite → Effect
reboot table w = leaving (rebooted table) dropped 0 []

-- and then a Reboot, whatever torque is [D17-D19]
unfoldable pub factory_reset : List ℕ → RegisteredWrite → ℕ → Effect
factory_reset table w option =
    cond (eqb option 0xFF) (reboot (reset_rom keeps_none table) w)
    (cond (eqb option 0x01) (reboot (reset_rom keeps_id table) w)
    (cond (eqb option 0x02) (reboot (reset_rom keeps_id_and_baud table) w) (refusing table w 0x04)))
