-- A board: its reader, its control table and its registered write. What a call with bytes of the line makes of it: the reader's
-- call, and what comes of it, if it is a packet or a bad checksum, is carried out at once.
use Rattle.std.specs.Prelude.{None, Option, Some}
use Rattle.std.specs.Prelude.{Bool, cond, ◌||◌, List, [], ◌∷◌, ℕ, leb, eqb, length, get_or}
use Rattle.answers.specs.Refusals.{first_failing, or_else}
use Rattle.answers.specs.declared.Refusal.{Refusal}
use Rattle.answers.specs.declared.Refusal.TheVariants.{BadReader}
use Rattle.stuffing.specs.Stuffing.{unstuff}
use Rattle.reading.specs.Reading.{Event, packet, bad_checksum}
use Rattle.reading.specs.Calls.{Call, call}
use Rattle.packet_front.specs.Front.{id_of}
use Rattle.packet.specs.Packet.{body_of}
use Rattle.packet.specs.Verdict.{protocol2}
use Rattle.reader_records.specs.declared.Reader.{Reader}
use Rattle.packet_protocols.specs.declared.Protocol.TheVariants.{Two}
use Rattle.reader_core.specs.Results.{lean_held}
use Rattle.reader_records.specs.Records.{held_in}
use Rattle.device_instructions.specs.declared.RegisteredWrite.{RegisteredWrite}
use Rattle.device_dispatch.specs.Reactions.{own_id}
use Rattle.device_dispatch.specs.declared.Heard.TheVariants.{Packet, BadChecksum}
use Rattle.device_status.specs.declared.Reply.{Reply}
use Rattle.device_status.specs.Status.{silence}
use Rattle.device.specs.Device.{Carried, carry_out}
use Rattle.device.specs.Answers.{state_refusal}
use Rattle.device.specs.Demand1.{error_number}

pub record Board : Type 0 where
  pub reader : Reader
  pub table : List ℕ
  pub registered : RegisteredWrite

abbrev pub board_of : Reader → List ℕ → RegisteredWrite → Board
board_of reader table w = record { reader = reader; table = table; registered = w }

-- an event is carried out: a packet by its ID and its body without stuffing, a bad checksum by its ID [B1]
abbrev pub carried_out : List ℕ → RegisteredWrite → Event → Carried
carried_out table w (packet bytes) = carry_out table w Packet (id_of bytes) (unstuff (body_of bytes))
carried_out table w (bad_checksum id) = carry_out table w BadChecksum id []

-- and where there is no event nothing is
abbrev pub carried_if_any : List ℕ → RegisteredWrite → Option Event → Carried
carried_if_any table w (Some e) = carried_out table w e
carried_if_any table w None = record { table = table; registered = w; reply = silence; error = 0 }

-- ---- what firmware is told of an event

-- an ID is that of this device or of all
abbrev pub addressed : List ℕ → ℕ → Bool
addressed table id = eqb id (own_id table) || eqb id 254

-- the instruction of a packet that is for this device, by its ID before the packet is carried out; 0 beside anything else [B4]
abbrev pub instruction_in : List ℕ → Option Event → ℕ
instruction_in table (Some (packet bytes)) = cond (addressed table (id_of bytes)) (get_or (body_of bytes) 0 0) 0
instruction_in table (Some (bad_checksum id)) = 0
instruction_in table None = 0

-- the error number of that instruction, also where it is not answered; 3 for a bad checksum with the own ID; 0 beside anything else
-- [B5]
abbrev pub error_in : List ℕ → RegisteredWrite → Option Event → ℕ
error_in table w (Some (packet bytes)) = error_number table w Packet (id_of bytes) (unstuff (body_of bytes))
error_in table w (Some (bad_checksum id)) = cond (eqb id (own_id table)) 3 0
error_in table w None = 0

-- ---- a call

-- what the caller lent is refused: more than 1,030 held bytes, 25; then table and registered write, 21 to 23 [B2]
unfoldable pub lent_refusal : ℕ → List ℕ → RegisteredWrite → Option Refusal
lent_refusal held table w = or_else (first_failing ((leb held 1030, BadReader) ∷ [])) (state_refusal table w)

abbrev pub board_refusal : Board → Option Refusal
board_refusal b = lent_refusal b.reader.count b.table b.registered

-- what a call answers: how many bytes it took, the event if any, what it asked and came to, and the reply to it
pub record Report : Type 0 where
  pub taken : ℕ
  pub event : Option Event
  pub instruction : ℕ
  pub error : ℕ
  pub reply : Reply

abbrev pub report_of : List ℕ → RegisteredWrite → ℕ → Option Event → Report
report_of table w taken event =
    record {
      taken = taken;
      event = event;
      instruction = instruction_in table event;
      error = error_in table w event;
      reply = (carried_if_any table w event).reply;
    }

-- what a call answers, and how it leaves the board
pub record Outcome : Type 0 where
  pub report : Report
  pub board : Board

-- how a call leaves the reader: what is held then, and its count; 0 follows as far as bytes were held and taken, and what lies further
-- on stays [B6]
unfoldable pub reader_left : Reader → Call → Reader
reader_left r c =
    let result = call protocol2 (held_in r) c in
    record { bytes = lean_held Two r.count r.bytes result; count = length result.held }

-- The event of the reader's call is carried out on the table and the registered write as they stand. A refusal takes no byte and
-- leaves everything as it was. [B1 B2]
abbrev pub outcome_unless : Option Refusal → Board → Call → Outcome
outcome_unless None b c =
    let result = call protocol2 (held_in b.reader) c in
    let done = carried_if_any b.table b.registered result.answer in
    record {
      report = report_of b.table b.registered result.taken result.answer;
      board = record { reader = reader_left b.reader c; table = done.table; registered = done.registered };
    }
outcome_unless (Some refusal) b c =
    record { report = report_of b.table b.registered 0 None; board = b }

unfoldable pub outcome : Board → Call → Outcome
outcome b c = outcome_unless (board_refusal b) b c
