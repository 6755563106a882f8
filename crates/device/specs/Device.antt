-- What the device makes of what it hears: one definition from (table, registered write, what was heard, its ID, unstuffed body) to
-- (new table, new registered write, reply, error number).
use Rattle.std.specs.Prelude.{true, false, cond, List, ℕ, leb, eqb, get_or}
use Rattle.table_registers.specs.Registers.{status_return_level, hardware_error}
use Rattle.device_status.specs.Status.{status, silence, error_byte}
use Rattle.device_instructions.specs.Instructions.{Effect}
use Rattle.device_instructions.specs.declared.RegisteredWrite.{RegisteredWrite}
use Rattle.device_status.specs.declared.Reply.{Reply}
use Rattle.device_dispatch.specs.declared.Heard.{Heard}
use Rattle.device_dispatch.specs.Reactions.{own_id, ReplyRule, silent, speaks, Reaction, reacting, unchanged, reaction}

abbrev pub hardware_error_in : List ℕ → ℕ
hardware_error_in table = get_or table hardware_error.address 0

-- by the ID and the status return level from before the instruction, and the hardware error from after it [D29 D30 D32]
abbrev pub reply_by : ReplyRule → List ℕ → Effect → Reply
reply_by silent table e = silence
reply_by (speaks least slot) table e =
    cond (leb least (get_or table status_return_level.address 0))
    (status (own_id table) (error_byte e.error (hardware_error_in e.table)) e.bytes slot) silence

-- the error number is 0 for none; it is there also where the reply is silence
pub record Carried : Type 0 where
  pub table : List ℕ
  pub registered : RegisteredWrite
  pub reply : Reply
  pub error : ℕ

abbrev pub carried : List ℕ → Reaction → Carried
carried table r =
    record {
      table = r.effect.table;
      registered = r.effect.registered;
      reply = reply_by r.replying table r.effect;
      error = r.effect.error;
    }

-- what is done with what was sent to the own ID, to all devices, or to another
unfoldable pub executed : List ℕ → RegisteredWrite → Heard → ℕ → List ℕ → Reaction
executed table w heard id body =
    cond (eqb id (own_id table)) (reaction heard false table w body)
    (cond (eqb id 254) (reaction heard true table w body) (reacting (unchanged table w) silent))

-- [D1 K9]
abbrev pub carry_out : List ℕ → RegisteredWrite → Heard → ℕ → List ℕ → Carried
carry_out table w heard id body = carried table (executed table w heard id body)
