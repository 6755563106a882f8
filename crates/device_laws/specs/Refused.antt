-- What a refused instruction leaves: table and registered write as they were, except that an Action has dropped the one it found.
use Rattle.std.specs.Prelude.{Bool, false, cond, not, ◌&&◌, List, [], ◌∷◌, ℕ, eqb, length, set}
use Rattle.device_instructions.specs.Registered.{dropped}
use Rattle.device_instructions.specs.declared.RegisteredWrite.{RegisteredWrite}
use Rattle.device_dispatch.specs.declared.Heard.{Heard}
use Rattle.device_dispatch.specs.declared.Heard.TheVariants.{Packet, BadChecksum}

-- an Action without parameters: a packet whose body is 05 alone
abbrev pub is_action : Heard → List ℕ → Bool
is_action BadChecksum body = false
is_action Packet [] = false
is_action Packet (instruction ∷ params) = eqb instruction 0x05 && eqb (length params) 0

-- that finds a registered write
abbrev pub acts_on : RegisteredWrite → Heard → List ℕ → Bool
acts_on w heard body = is_action heard body && not (eqb w.count 0)

-- byte 69 is 0 then, and every other byte is as it was [D40]
abbrev pub table_if_refused : List ℕ → RegisteredWrite → Heard → List ℕ → List ℕ
table_if_refused table w heard body = cond (acts_on w heard body) (set table 69 0) table

-- [D40]
abbrev pub registered_if_refused : RegisteredWrite → Heard → List ℕ → RegisteredWrite
registered_if_refused w heard body = cond (acts_on w heard body) dropped w
