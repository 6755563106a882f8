-- What the functions answer: an effect without its table, as the code tells it.
use Rattle.std.specs.Prelude.{Err, None, Ok, Option, Result, Some}
use Rattle.std.specs.Prelude.{◌≡◌, List, [], ℕ, length}
use Rattle.answers.specs.Refusals.{number_of}
use Rattle.answers.specs.declared.Refusal.TheVariants.{NotATable as RefusedTable}
use Rattle.lists.specs.Write.{padded}
use Rattle.table_rules.specs.Outcomes.{in_table}
use Rattle.device_codes.specs.Codes.{error_number}
use Rattle.device_instructions.specs.Instructions.{Effect, refusing, read}
use Rattle.device_instructions.specs.declared.RegisteredWrite.{RegisteredWrite}
use Rattle.device_instructions.specs.declared.ReplyData.{ReplyData}
use Rattle.device_instructions.specs.declared.Fault.{Fault}
use Rattle.device_instructions.specs.declared.Fault.TheVariants.{Error, NotATable}

-- the error number, 0 for none, the data with 0 after them, and the registered write
pub record Done : Type 0 where
  pub error : ℕ
  pub count : ℕ
  pub bytes : List ℕ
  pub registered : RegisteredWrite

abbrev pub done_with : ℕ → List ℕ → RegisteredWrite → Done
done_with error bytes w = record { error = error; count = length bytes; bytes = padded 8 bytes; registered = w }

abbrev pub done_of : Effect → Done
done_of e = done_with e.error e.bytes e.registered

-- a fault of the caller has its number in the place of the error number
abbrev pub fault_number : Fault → ℕ
fault_number (Error error) = error_number error
fault_number NotATable = number_of RefusedTable

-- an answer of the code, with the registered write that it left
abbrev pub done_in : Result ReplyData Fault → RegisteredWrite → Done
done_in (Ok reply) w = record { error = 0; count = reply.count; bytes = reply.bytes; registered = w }
done_in (Err fault) w = done_with (fault_number fault) [] w

-- a fault of the caller is told in the place of the error number, and nothing is done
abbrev pub effect_unless : Option ℕ → List ℕ → RegisteredWrite → Effect → Effect
effect_unless None table w e = e
effect_unless (Some number) table w e = refusing table w number

abbrev pub sized : List ℕ → RegisteredWrite → Effect → Effect
sized table w e = effect_unless (in_table table None) table w e

-- that is what Read does, whatever is registered
abbrev pub HasRead : Result ReplyData Fault → List ℕ → ℕ → ℕ → Type 0
HasRead answer table address n = (w : RegisteredWrite) → done_in answer w ≡ done_of (sized table w (read table w address n))
