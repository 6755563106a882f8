-- What fits: each count, offset and slot of an answer is at most the length of something that came in, or one of a few figures. For
-- every input, those that are refused included. So nothing is lost where a size_t has 32 bits: tools/targets/layer.py names the
-- field here for each number that it narrows.
use Rattle.std.specs.Prelude.{Bool, List, ℕ, ◌≤◌, min, max, ℤ, pos, negsuc, length}
use Rattle.answers.specs.Answers.{exported}
use Rattle.stuffing.specs.Answers.{removal_answer}
use Rattle.reading.specs.Calls.{Call}
use Rattle.reading.specs.Lists.{chunk_of}
use Rattle.packet_encoder.specs.Encoding.{encode_answer}
use Rattle.packet_encoder_v1.specs.Encoding.{encode_answer as encodeAnswerV1}
use Rattle.packet_protocols.specs.declared.Protocol.{Protocol}
use Rattle.packet_protocols.specs.declared.Protocol.TheVariants.{Two, One, Mercury}
use Rattle.reader_records.specs.declared.Reader.{Reader}
use Rattle.reader_records.specs.Records.{step_in, left_in}
use Rattle.reader_plain.specs.Next.{next_event}
use Rattle.log_writer.specs.Writing.{write_answer}
use Rattle.line_log.specs.Question.{question}
use Rattle.log_salvage.specs.Salvage.{salvage_answer}
use Rattle.device_instructions.specs.declared.RegisteredWrite.{RegisteredWrite}
use Rattle.device_dispatch.specs.declared.Heard.{Heard}
use Rattle.device_status.specs.declared.Reply.{Reply}
use Rattle.device_status.specs.Sending.{status_answer}
use Rattle.device.specs.Answers.{carried_reply, call_answer}
use Rattle.device_packet.specs.Exchange.{packet_reply, exchange_answer}
use Rattle.board.specs.Board.{Board, outcome}
use Rattle.board.specs.Numbers.{board_step}
use Rattle.plan.specs.Planner.{plan_answer}
use Rattle.numbers.specs.Exported.{step_numbers, next_numbers, device_numbers, found_numbers, salvaged_numbers}

-- Feeding and gap calls of a protocol: its longest packet, and how many bytes can be held. A gap call gets no bytes.
pub record StepFits (p : Protocol) (longest most : ℕ) : Type 0 where
  pub taken : (r : Reader) (c : Call) → (step_numbers (step_in p r c)).taken ≤ length (chunk_of c)
  pub count : (r : Reader) (c : Call) → (step_numbers (step_in p r c)).count ≤ longest
  -- the count of held bytes that is left; one that is refused is left as it came
  pub held : (r : Reader) (c : Call) → (left_in p r c).count ≤ max r.count most

-- [K10]
pub record StepsFit : Type 0 where
  pub two : StepFits Two 1031 1030
  pub one : StepFits One 259 258
  pub mercury : StepFits Mercury 259 258

-- calls on a board [K10]
pub record BoardFits : Type 0 where
  pub taken : (b : Board) (c : Call) → (board_step b c).taken ≤ length (chunk_of c)
  pub count : (b : Board) (c : Call) → (board_step b c).count ≤ 1031
  pub held : (b : Board) (c : Call) → (outcome b c).board.reader.count ≤ max b.reader.count 1030
  pub slot : (b : Board) (c : Call) → (board_step b c).reply.slot ≤ 252

-- a number with a sign is at most so much; a refusal is below 0
abbrev pub AtMost : ℕ → ℤ → Type 0
AtMost most (pos n) = n ≤ most
AtMost most (negsuc n) = Unit {0}

-- the device's calls: the reply slot of the call in one and of the reply that waits, and the status's count; each also on a packet
-- as received [K10]
pub record DeviceFits : Type 0 where
  pub slot : (table : List ℕ) (w kept : RegisteredWrite) (heard : Heard) (id : ℕ) (body out : List ℕ)
      → (device_numbers (call_answer table w heard id body out) kept).slot ≤ 252
  pub packet_slot : (table : List ℕ) (w kept : RegisteredWrite) (packet body out : List ℕ)
      → (device_numbers (exchange_answer table w packet body out) kept).slot ≤ 252
  pub waiting_slot : (table : List ℕ) (w : RegisteredWrite) (heard : Heard) (id : ℕ) (body : List ℕ)
      → (carried_reply table w heard id body).slot ≤ 252
  pub waiting_packet_slot : (table : List ℕ) (w : RegisteredWrite) (packet body : List ℕ) → (packet_reply table w packet body).slot ≤ 252
  pub count : (table : List ℕ) (w kept : RegisteredWrite) (heard : Heard) (id : ℕ) (body out : List ℕ)
      → AtMost 21 (device_numbers (call_answer table w heard id body out) kept).count
  pub packet_count : (table : List ℕ) (w kept : RegisteredWrite) (packet body out : List ℕ)
      → AtMost 21 (device_numbers (exchange_answer table w packet body out) kept).count

-- the plain reader's event in a segment [K10]
pub record EventFits : Type 0 where
  pub offset : (s : List ℕ) (from : ℕ) → (next_numbers (next_event s from)).offset ≤ length s
  pub count : (s : List ℕ) (from : ℕ) → (next_numbers (next_event s from)).count ≤ length s
  pub next : (s : List ℕ) (from : ℕ) → (next_numbers (next_event s from)).next ≤ length s

-- the question to a log [K10]
pub record FoundFits : Type 0 where
  pub segment : (file : List ℕ) (id : ℕ) → (found_numbers (question file id)).segment ≤ length file
  pub offset : (file : List ℕ) (id : ℕ) → (found_numbers (question file id)).offset ≤ length file

-- the salvage of a log [K10]
pub record SalvagedFits : Type 0 where
  pub dropped : (file out report : List ℕ) → (salvaged_numbers (salvage_answer file out report)).dropped ≤ length file
  pub index : (file out report : List ℕ) → (salvaged_numbers (salvage_answer file out report)).index ≤ 254
  pub leftover : (file out report : List ℕ) → (salvaged_numbers (salvage_answer file out report)).leftover ≤ length file
  pub count : (file out report : List ℕ) → AtMost (length file) (salvaged_numbers (salvage_answer file out report)).count

-- what is written into a buffer [K10]
pub record CountsFit : Type 0 where
  pub encoded : (id : ℕ) (body out : List ℕ) (at : ℕ) → AtMost (min 1031 (length out)) (exported (encode_answer id body out at))
  pub encoded_v1 : (good : ℕ → Bool) (id : ℕ) (body out : List ℕ) (at : ℕ)
      → AtMost (min 259 (length out)) (exported (encodeAnswerV1 good id body out at))
  pub unstuffed : (body out : List ℕ) → AtMost (min (length body) (length out)) (exported (removal_answer body out))
  pub status : (reply : Reply) (out : List ℕ) → AtMost 22 (exported (status_answer reply out))
  pub logged : (bytes lengths out : List ℕ) → AtMost (length out) (exported (write_answer bytes lengths out))
  pub planned : (goals : List ℤ) (out : List ℕ) → AtMost (length out) (exported (plan_answer goals out))
