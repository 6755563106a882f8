-- What Reboot and Factory Reset make of a table.
use Rattle.std.specs.Prelude.{Bool, true, false, not, cond, ◌&&◌, ◌||◌, List, [], ◌∷◌, ℕ, eqb}
use Rattle.lists.specs.Write.{placed}
use Rattle.table_registers.specs.Registers.{Register, Area, rom, ram, registers, device_id, baud_code, min_position, goal_position, present_position, writable}
use Rattle.table_items.specs.Items.{item_bytes}
use Rattle.table_access.specs.Fresh.{freshened}

abbrev pub only : (Register → Bool) → List Register → List Register
only test [] = []
only test (r ∷ rs) = cond (test r) (r ∷ only test rs) (only test rs)

abbrev pub is_rom : Area → Bool
is_rom rom = true
is_rom ram = false

abbrev pub is_at : ℕ → Register → Bool
is_at address r = eqb r.address address

-- [D16]
abbrev pub reset_at_reboot : Register → Bool
reset_at_reboot r = not (is_rom r.area) && (not (is_at present_position.address r) && not (is_at goal_position.address r))

-- RAM items fresh, except that present position stays and goal position gets the bytes of min position [D16]
unfoldable pub rebooted : List ℕ → List ℕ
rebooted table = placed (freshened (only reset_at_reboot registers) table) goal_position.address (item_bytes min_position table)

-- the writable ROM items but for those that the option keeps [D17]
unfoldable pub reset_rom : (Register → Bool) → List ℕ → List ℕ
reset_rom keeps table = freshened (only (λ r. is_rom r.area && (writable r.access && not (keeps r))) registers) table

-- the ID is kept or not, and the baud code [D17]
abbrev pub keeping : Bool → Bool → Register → Bool
keeping id baud r = (id && is_at device_id.address r) || (baud && is_at baud_code.address r)

-- [D17]
abbrev pub keeps_none : Register → Bool
keeps_none = keeping false false

-- [D17]
abbrev pub keeps_id : Register → Bool
keeps_id = keeping true false

-- [D17]
abbrev pub keeps_id_and_baud : Register → Bool
keeps_id_and_baud = keeping true true
