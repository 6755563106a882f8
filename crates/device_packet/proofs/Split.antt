-- The two calls on a packet, one straight after the other, are the one call.
use Rattle.std.specs.Prelude.{Err, None, Option, Some}
use mathlib.Core.Path.{◌≡◌, refl, ap}
use mathlib.Core.List.{List}
use Prim.Native.Nat.{ℕ, ◌≤◌}
use lib.ListN.{length}
use Rattle.answers.specs.Refusals.{unless_refused}
use Rattle.answers.specs.declared.Refusal.{Refusal}
use Rattle.lists.specs.Write.{overwritten}
use Rattle.stuffing.specs.Answers.{removal_refusal}
use Rattle.packet.specs.Packet.{body_of}
use Rattle.device.specs.Answers.{replied, with_slot, answered_by}
use Rattle.device_status.specs.Status.{silence}
use Rattle.device_status.specs.Sending.{status_answer, status_out}
use Rattle.device.specs.Split.{answer_of_both, out_of_both}
use Rattle.device_status.specs.declared.Reply.{Reply}
use Rattle.device.proofs.Split.{Same, with_room as device-with-room}
use Rattle.device_instructions.specs.declared.RegisteredWrite.{RegisteredWrite}
use Rattle.device_dispatch.specs.declared.Heard.TheVariants.{Packet}
use Rattle.device_packet.specs.Exchange.{heard_of, packet_refusal, packet_reply, packet_table, packet_registered, packet_body, exchange_answer, exchange_table, exchange_registered, exchange_body, exchange_out}

module _ (table : List ℕ) (w : RegisteredWrite) (packet body out : List ℕ) where
  pub record SameAsOne : Type 0 where
    pub same_answer_lem : answer_of_both (packet_refusal table w packet body) (packet_reply table w packet body) out ≡ exchange_answer table w packet body out
    pub same_table : packet_table table w packet body ≡ exchange_table table w packet body out
    pub same_registered_lem : packet_registered table w packet body ≡ exchange_registered table w packet body out
    pub same_body : packet_body table w packet body ≡ exchange_body table w packet body out
    pub same_reply : out_of_both (packet_refusal table w packet body) (packet_reply table w packet body) out ≡ exchange_out table w packet body out

  not_removed : (refusal : Refusal) → removal_refusal (body_of packet) body ≡ Some refusal → SameAsOne
  not_removed refusal e = record { same_answer_lem = rw e; same_table = rw e; same_registered_lem = rw e; same_body = rw e; same_reply = rw e }

  -- the stuffing is removed, and the device hears
  heard : removal_refusal (body_of packet) body ≡ None
      → Same table w Packet (heard_of packet).id (heard_of packet).body out → SameAsOne
  heard e same =
      let d = same.as_one in
      record {
        same_answer_lem = rw e d.same_answer_lem;
        same_table = rw e d.same_table;
        same_registered_lem = rw e d.same_registered_lem;
        same_body = rw e (ap (λ (r : Option Refusal). unless_refused r body (overwritten body (heard_of packet).body)) same.refusals);
        same_reply = rw e d.same_reply;
      }

  by_removal : (r : Option Refusal) → removal_refusal (body_of packet) body ≡ r
      → (removal_refusal (body_of packet) body ≡ None → Same table w Packet (heard_of packet).id (heard_of packet).body out)
      → SameAsOne
  by_removal (Some refusal) e device = not_removed refusal e
  by_removal None e device = heard e (device e)

  pub with_room : 32 ≤ length out → SameAsOne
  with_room room =
      by_removal (removal_refusal (body_of packet) body) refl
      (λ e. device-with-room table w Packet (heard_of packet).id (heard_of packet).body out room)

-- the first call is refused, and the second not made
pub stopped : (refusal : Option Refusal) (r : Refusal) → Err r ≡ answered_by refusal silence → (reply : Reply) (out : List ℕ)
    → (Err r ≡ answer_of_both refusal reply out) × (out ≡ out_of_both refusal reply out)
stopped None r e reply out = absurd cc
stopped (Some refusal) r e reply out = (e, refl)

-- it is not refused: the second is made
pub goes_on : (refusal : Option Refusal) → replied 0 0 ≡ answered_by refusal silence → (reply : Reply) (out : List ℕ)
    → (with_slot (status_answer reply out) reply.slot ≡ answer_of_both refusal reply out) × (status_out reply out ≡ out_of_both refusal reply out)
goes_on None e reply out = (refl, refl)
goes_on (Some refusal) e reply out = absurd cc
