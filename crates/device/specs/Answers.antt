-- The calls of the device: refusals, and what is answered and left.
use Rattle.std.specs.Prelude.{Err, None, Ok, Option, Result, Some}
use Rattle.std.specs.Prelude.{List, [], ◌∷◌, ℕ, leb, eqb, length}
use Rattle.answers.specs.Refusals.{first_failing, or_else, unless_refused}
use Rattle.answers.specs.declared.Refusal.{Refusal}
use Rattle.answers.specs.declared.Refusal.TheVariants.{NotATable, BadTableId, BadRegistered, ShortReply}
use Rattle.lists.specs.Write.{overwritten}
use Rattle.table_registers.specs.Registers.{table_size}
use Rattle.device_instructions.specs.Registered.{kept_by}
use Rattle.device_dispatch.specs.Reactions.{own_id}
use Rattle.device.specs.Device.{carry_out}
use Rattle.device_instructions.specs.declared.RegisteredWrite.{RegisteredWrite}
use Rattle.device_status.specs.declared.Reply.{Reply}
use Rattle.device_dispatch.specs.declared.Heard.{Heard}
use Rattle.device_status.specs.Status.{silence, reply_bytes}
use Rattle.device.specs.declared.Sent.{Sent}

-- of table and registered write [N5-N7]
unfoldable pub state_refusal : List ℕ → RegisteredWrite → Option Refusal
state_refusal table w =
    first_failing
    ((eqb (length table) table_size, NotATable)
    ∷ (leb (own_id table) 252, BadTableId)
    ∷ (leb w.count 8, BadRegistered)
    ∷ [])

-- ---- the first call: the instruction is carried out, and its reply waits

-- a refused one answers silence [D51]
abbrev pub reply_unless : Option Refusal → Reply → Reply
reply_unless None reply = reply
reply_unless (Some refusal) reply = silence

-- and has no error number
abbrev pub error_unless : Option Refusal → ℕ → ℕ
error_unless None error = error
error_unless (Some refusal) error = 0

module _ (table : List ℕ) (w : RegisteredWrite) (heard : Heard) (id : ℕ) (body : List ℕ) where
  -- [D50 D51]
  abbrev pub carried_reply : Reply
  carried_reply = reply_unless (state_refusal table w) (carry_out table w heard id body).reply

  -- [D50]
  abbrev pub carried_table : List ℕ
  carried_table = unless_refused (state_refusal table w) table (carry_out table w heard id body).table

  -- [D50]
  abbrev pub carried_registered : RegisteredWrite
  carried_registered = kept_by (state_refusal table w) w (carry_out table w heard id body).registered

  -- [D50]
  abbrev pub carried_error : ℕ
  carried_error = error_unless (state_refusal table w) (carry_out table w heard id body).error

-- ---- the device call: instruction and status in one

-- of the reply buffer [N8]
unfoldable pub room_refusal : List ℕ → Option Refusal
room_refusal out = first_failing ((leb 32 (length out), ShortReply) ∷ [])

-- faults of the caller come first, whatever was heard [N5-N8 N10 T18]
unfoldable pub call_refusal : List ℕ → RegisteredWrite → List ℕ → Option Refusal
call_refusal table w out = or_else (state_refusal table w) (room_refusal out)

-- a status of n bytes, 0 for silence, and its reply slot
abbrev pub replied : ℕ → ℕ → Result Sent Refusal
replied n slot = Ok (record { count = n; slot = slot })

-- what the function that sends answers, with the reply slot [D35]
abbrev pub with_slot : Result ℕ Refusal → ℕ → Result Sent Refusal
with_slot (Ok n) slot = replied n slot
with_slot (Err refusal) slot = Err refusal

-- the status's byte count and the reply slot, both 0 when silent; or a refusal [D35]
abbrev pub answered_by : Option Refusal → Reply → Result Sent Refusal
answered_by None reply = replied (length (reply_bytes reply)) reply.slot
answered_by (Some refusal) reply = Err refusal

-- a refusal of the first call, or none: nothing is sent by it [D51 N5-N7]
abbrev pub carried_answer : List ℕ → RegisteredWrite → Result Sent Refusal
carried_answer table w = answered_by (state_refusal table w) silence

module _ (table : List ℕ) (w : RegisteredWrite) (heard : Heard) (id : ℕ) (body out : List ℕ) where
  abbrev pub call_answer : Result Sent Refusal
  call_answer = answered_by (call_refusal table w out) (carry_out table w heard id body).reply

  abbrev pub call_table : List ℕ
  call_table = unless_refused (call_refusal table w out) table (carry_out table w heard id body).table

  abbrev pub call_registered : RegisteredWrite
  call_registered = kept_by (call_refusal table w out) w (carry_out table w heard id body).registered

  -- the bytes after the status stay, and so do all of them when silent [D36 D37]
  abbrev pub call_out : List ℕ
  call_out = unless_refused (call_refusal table w out) out (overwritten out (reply_bytes (carry_out table w heard id body).reply))
