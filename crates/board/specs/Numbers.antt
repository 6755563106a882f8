-- What a call on a board answers as C gets it, and what it leaves of the packet buffer.
use Rattle.std.specs.Prelude.{None, Option, Some}
use Rattle.std.specs.Prelude.{List, ℕ, length}
use Rattle.answers.specs.Refusals.{number_of}
use Rattle.answers.specs.declared.Refusal.{Refusal}
use Rattle.lists.specs.Write.{placed}
use Rattle.stuffing.specs.Stuffing.{unstuff}
use Rattle.reading.specs.Reading.{Event, packet, bad_checksum}
use Rattle.reading.specs.Calls.{Call, call}
use Rattle.packet_front.specs.Front.{id_of}
use Rattle.packet.specs.Packet.{body_of}
use Rattle.packet.specs.Verdict.{protocol2}
use Rattle.packet_protocols.specs.declared.Protocol.TheVariants.{Two}
use Rattle.reader_core.specs.Results.{lean_packet}
use Rattle.reader_records.specs.Records.{held_in}
use Rattle.device_instructions.specs.declared.RegisteredWrite.{RegisteredWrite}
use Rattle.device_status.specs.Status.{silence}
use Rattle.board.specs.Board.{Board, Report, Outcome, board_refusal, outcome}
use Rattle.board.specs.declared.BoardStep.{BoardStep}

-- kind 1 is a packet, with its byte count and ID, 2 a bad checksum, with its ID, and 0 no event [B3]
abbrev pub kind_of : Option Event → ℕ
kind_of (Some (packet w)) = 1
kind_of (Some (bad_checksum id)) = 2
kind_of None = 0

abbrev pub count_of : Option Event → ℕ
count_of (Some (packet w)) = length w
count_of (Some (bad_checksum id)) = 0
count_of None = 0

abbrev pub id_in : Option Event → ℕ
id_in (Some (packet w)) = id_of w
id_in (Some (bad_checksum id)) = id
id_in None = 0

abbrev pub step_with : Report → RegisteredWrite → BoardStep
step_with r kept =
    record {
      taken = r.taken;
      count = count_of r.event;
      kind = kind_of r.event;
      id = id_in r.event;
      instruction = r.instruction;
      error = r.error;
      reply = r.reply;
      registered = kept;
    }

-- a refusal is the kind of its number, and all else is 0 [B2]
abbrev pub refused_step : ℕ → RegisteredWrite → BoardStep
refused_step number w =
    record { taken = 0; count = 0; kind = number; id = 0; instruction = 0; error = 0; reply = silence; registered = w }

abbrev pub step_unless : Option Refusal → Outcome → BoardStep
step_unless None o = step_with o.report o.board.registered
step_unless (Some refusal) o = refused_step (number_of refusal) o.board.registered

unfoldable pub board_step : Board → Call → BoardStep
board_step b c = step_unless (board_refusal b) (outcome b c)

-- the packet buffer, which the reader's call left so: in a packet the body without stuffing stands over the body [B7]
abbrev pub buffer_for : List ℕ → Option Event → List ℕ
buffer_for read (Some (packet w)) = placed read 7 (unstuff (body_of w))
buffer_for read (Some (bad_checksum id)) = read
buffer_for read None = read

abbrev pub buffer_unless : Option Refusal → List ℕ → List ℕ → Option Event → List ℕ
buffer_unless None old read e = buffer_for read e
buffer_unless (Some refusal) old read e = old

unfoldable pub buffer_left : Board → Call → List ℕ → List ℕ
buffer_left b c old =
    let result = call protocol2 (held_in b.reader) c in
    buffer_unless (board_refusal b) old (lean_packet Two b.reader.count old result) result.answer
