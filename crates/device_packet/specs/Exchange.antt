-- From a packet as received to the device: what it hears, and what the call on a packet answers and leaves.
use Rattle.std.specs.Prelude.{Err, Result}
use Rattle.std.specs.Prelude.{None, Option, Some}
use Rattle.std.specs.Prelude.{cond, List, ℕ, eqb, length}
use Rattle.answers.specs.Refusals.{or_else, unless_refused}
use Rattle.answers.specs.declared.Refusal.{Refusal}
use Rattle.lists.specs.Write.{overwritten}
use Rattle.stuffing.specs.Stuffing.{unstuff}
use Rattle.stuffing.specs.Answers.{removal_refusal}
use Rattle.reading.specs.Rules.{Verdict, is_packet, is_bad_checksum, is_waiting, is_nothing}
use Rattle.packet_front.specs.Front.{id_of}
use Rattle.packet.specs.Packet.{body_of}
use Rattle.packet.specs.Verdict.{verdict}
use Rattle.device_instructions.specs.Registered.{kept_by}
use Rattle.device_status.specs.Status.{silence}
use Rattle.device.specs.Answers.{answered_by, reply_unless, state_refusal, carried_reply, carried_table, carried_registered, call_refusal, call_answer, call_table, call_registered, call_out}
use Rattle.device_status.specs.declared.Reply.{Reply}
use Rattle.device_instructions.specs.declared.RegisteredWrite.{RegisteredWrite}
use Rattle.device_dispatch.specs.declared.Heard.TheVariants.{Packet}
use Rattle.device.specs.declared.Sent.{Sent}

-- by the verdict on the bytes: one well-formed packet, and nothing beyond it, is for its ID; anything else is for nobody, as
-- what is sent to 255 is
abbrev pub id_by : Verdict → List ℕ → ℕ
id_by (is_packet n) packet = cond (eqb n (length packet)) (id_of packet) 255
id_by (is_bad_checksum id) packet = 255
id_by is_waiting packet = 255
id_by is_nothing packet = 255

-- [D38]
unfoldable pub id_heard : List ℕ → ℕ
id_heard packet = id_by (verdict packet) packet

pub record Message : Type 0 where
  pub id : ℕ
  pub body : List ℕ

-- what the device hears of a packet as received: the ID and the unstuffed body [D38]
abbrev pub heard_of : List ℕ → Message
heard_of packet = record { id = id_heard packet; body = unstuff (body_of packet) }

-- a refusal, or else the device's answer
abbrev pub refused_or : Option Refusal → Result Sent Refusal → Result Sent Refusal
refused_or None answer = answer
refused_or (Some refusal) answer = Err refusal

-- ---- the first call on a packet as received: 14 and 13, then 21 to 23
module _ (table : List ℕ) (w : RegisteredWrite) (packet body : List ℕ) where
  -- [D50 N3 N4]
  abbrev pub packet_refusal : Option Refusal
  packet_refusal = or_else (removal_refusal (body_of packet) body) (state_refusal table w)

  -- a refusal, or none: nothing is sent by it
  abbrev pub packet_answer : Result Sent Refusal
  packet_answer = answered_by packet_refusal silence

  -- [D50 D51]
  abbrev pub packet_reply : Reply
  packet_reply = reply_unless (removal_refusal (body_of packet) body) (carried_reply table w Packet (heard_of packet).id (heard_of packet).body)

  -- [D50]
  abbrev pub packet_table : List ℕ
  packet_table = unless_refused (removal_refusal (body_of packet) body) table (carried_table table w Packet (heard_of packet).id (heard_of packet).body)

  -- [D50]
  abbrev pub packet_registered : RegisteredWrite
  packet_registered =
      kept_by (removal_refusal (body_of packet) body) w (carried_registered table w Packet (heard_of packet).id (heard_of packet).body)

  -- [D39 D50]
  abbrev pub packet_body : List ℕ
  packet_body = unless_refused packet_refusal body (overwritten body (heard_of packet).body)

-- ---- the call in one. Removal of the stuffing, 14 and 13, comes before the device's call, 21 to 24.
module _ (table : List ℕ) (w : RegisteredWrite) (packet body out : List ℕ) where
  -- of the packet's body, by the room in the body buffer
  abbrev pub body_refusal : Option Refusal
  body_refusal = removal_refusal (body_of packet) body

  -- of the call
  abbrev pub exchange_refusal : Option Refusal
  exchange_refusal = or_else body_refusal (call_refusal table w out)

  abbrev pub exchange_answer : Result Sent Refusal
  exchange_answer = refused_or body_refusal (call_answer table w Packet (heard_of packet).id (heard_of packet).body out)

  abbrev pub exchange_table : List ℕ
  exchange_table = unless_refused body_refusal table (call_table table w Packet (heard_of packet).id (heard_of packet).body out)

  abbrev pub exchange_registered : RegisteredWrite
  exchange_registered = kept_by body_refusal w (call_registered table w Packet (heard_of packet).id (heard_of packet).body out)

  abbrev pub exchange_out : List ℕ
  exchange_out = unless_refused body_refusal out (call_out table w Packet (heard_of packet).id (heard_of packet).body out)

  -- the unstuffed body, unless either of them refuses; the bytes after it stay [D39]
  abbrev pub exchange_body : List ℕ
  exchange_body = unless_refused exchange_refusal body (overwritten body (heard_of packet).body)
