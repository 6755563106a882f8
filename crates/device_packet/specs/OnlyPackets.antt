-- Only well-formed packets are carried out: no table changes by bytes that the packet rules refuse, whoever calls. And none is
-- refused where table, registered write and buffers are as they should be.
use Rattle.std.specs.Prelude.{None}
use Rattle.std.specs.Prelude.{◌≡◌, List, ℕ, ◌≤◌, length}
use Rattle.stuffing.specs.Stuffing.{unstuff}
use Rattle.stuffing.specs.Answers.{removal_refusal}
use Rattle.packet_front.specs.Front.{id_of}
use Rattle.packet.specs.Packet.{body_of, WellFormed}
use Rattle.device_status.specs.Status.{silence}
use Rattle.device.specs.Answers.{answered_by, state_refusal}
use Rattle.device_instructions.specs.declared.RegisteredWrite.{RegisteredWrite}
use Rattle.device_packet.specs.Exchange.{heard_of, packet_refusal, packet_reply, packet_table, packet_registered, exchange_refusal, exchange_answer, exchange_table, exchange_registered, exchange_out}

-- nothing changes, and the answer is a refusal by its number, or 0 bytes in slot 0; the reply of the first call is silence
pub record Unheard (table : List ℕ) (w : RegisteredWrite) (packet body out : List ℕ) : Type 0 where
  pub same_table : exchange_table table w packet body out ≡ table
  pub same_registered_lem : exchange_registered table w packet body out ≡ w
  pub same_reply : exchange_out table w packet body out ≡ out
  pub silent : exchange_answer table w packet body out ≡ answered_by (exchange_refusal table w packet body out) silence
  pub first_table : packet_table table w packet body ≡ table
  pub first_registered : packet_registered table w packet body ≡ w
  pub first_reply : packet_reply table w packet body ≡ silence

-- [D38]
pub record OnlyPackets : Type 0 where
  -- a well-formed packet is heard, if there is room for its body
  pub its_id : (packet : List ℕ) → WellFormed packet → (heard_of packet).id ≡ id_of packet
  pub with_room : (packet body : List ℕ) → WellFormed packet → length (unstuff (body_of packet)) ≤ length body
      → removal_refusal (body_of packet) body ≡ None
  pub others : (table : List ℕ) (w : RegisteredWrite) (packet body out : List ℕ) → ¬ WellFormed packet → Unheard table w packet body out
  -- 'No bytes on the line lead to a refused call': a packet, a body buffer of 1,022 bytes, a reply buffer of 32, and a table and a
  -- registered write that are accepted give no refusal [D42]
  pub never_refused : (table : List ℕ) (w : RegisteredWrite) (packet body out : List ℕ) → WellFormed packet → 1022 ≤ length body
      → 32 ≤ length out → state_refusal table w ≡ None
      → (exchange_refusal table w packet body out ≡ None) × (packet_refusal table w packet body ≡ None)
