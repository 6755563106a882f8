-- The calls on a packet as received are the device's calls on what is heard of it, unless removing the stuffing refuses them: what is
-- promised of the device holds of them so.
use Rattle.std.specs.Prelude.{Err}
use Rattle.std.specs.Prelude.{None, Some}
use Rattle.std.specs.Prelude.{◌≡◌, List, ℕ}
use Rattle.answers.specs.Refusals.{unless_refused}
use Rattle.answers.specs.declared.Refusal.{Refusal}
use Rattle.lists.specs.Write.{overwritten}
use Rattle.stuffing.specs.Answers.{removal_refusal}
use Rattle.packet.specs.Packet.{body_of}
use Rattle.device_status.specs.Status.{silence}
use Rattle.device.specs.Answers.{state_refusal, carried_answer, carried_reply, carried_table, carried_registered, call_refusal, call_answer, call_table, call_registered, call_out}
use Rattle.device_instructions.specs.declared.RegisteredWrite.{RegisteredWrite}
use Rattle.device_dispatch.specs.declared.Heard.TheVariants.{Packet}
use Rattle.device_packet.specs.Exchange.{heard_of, packet_answer, packet_reply, packet_table, packet_registered, packet_body, exchange_answer, exchange_table, exchange_registered, exchange_out, exchange_body}

module _ (table : List ℕ) (w : RegisteredWrite) (packet body out : List ℕ) where
  -- the call in one, and the first of two; the body is in its buffer unless the device's call is refused [D38 D39 D50]
  pub record PassedOn : Type 0 where
    pub answer : exchange_answer table w packet body out ≡ call_answer table w Packet (heard_of packet).id (heard_of packet).body out
    pub new_table : exchange_table table w packet body out ≡ call_table table w Packet (heard_of packet).id (heard_of packet).body out
    pub registered : exchange_registered table w packet body out ≡ call_registered table w Packet (heard_of packet).id (heard_of packet).body out
    pub reply : exchange_out table w packet body out ≡ call_out table w Packet (heard_of packet).id (heard_of packet).body out
    pub new_body : exchange_body table w packet body out ≡ unless_refused (call_refusal table w out) body (overwritten body (heard_of packet).body)
    pub first_answer : packet_answer table w packet body ≡ carried_answer table w
    pub first_reply : packet_reply table w packet body ≡ carried_reply table w Packet (heard_of packet).id (heard_of packet).body
    pub first_table : packet_table table w packet body ≡ carried_table table w Packet (heard_of packet).id (heard_of packet).body
    pub first_registered : packet_registered table w packet body ≡ carried_registered table w Packet (heard_of packet).id (heard_of packet).body
    pub first_body : packet_body table w packet body ≡ unless_refused (state_refusal table w) body (overwritten body (heard_of packet).body)

  -- the refusal, and all that was lent as it was [N12]
  pub record Stopped (refusal : Refusal) : Type 0 where
    pub answer : exchange_answer table w packet body out ≡ Err refusal
    pub same_table : exchange_table table w packet body out ≡ table
    pub same_registered_lem : exchange_registered table w packet body out ≡ w
    pub same_reply : exchange_out table w packet body out ≡ out
    pub same_body : exchange_body table w packet body out ≡ body
    pub first_answer : packet_answer table w packet body ≡ Err refusal
    pub first_reply : packet_reply table w packet body ≡ silence
    pub first_table : packet_table table w packet body ≡ table
    pub first_registered : packet_registered table w packet body ≡ w
    pub first_body : packet_body table w packet body ≡ body

-- [D38 D39 D50]
pub record AsDevice : Type 0 where
  pub passed_on : (table : List ℕ) (w : RegisteredWrite) (packet body out : List ℕ) → removal_refusal (body_of packet) body ≡ None
      → PassedOn table w packet body out
  -- 14 or 13
  pub stopped : (table : List ℕ) (w : RegisteredWrite) (packet body out : List ℕ) (refusal : Refusal)
      → removal_refusal (body_of packet) body ≡ Some refusal → Stopped table w packet body out refusal
