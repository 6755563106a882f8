-- What a refusal leaves.
use Rattle.std.specs.Prelude.{Err}
use Rattle.std.specs.Prelude.{None, Option, Some}
use mathlib.Core.Path.{◌≡◌, refl, ap}
use mathlib.Core.Bool.{Bool, true, false, cond}
use mathlib.Core.List.{List}
use Prim.Native.Nat.{ℕ, ◌<◌}
use native.Mathlib.Omega.{arith}
use lib.Dec.{leb}
use lib.ListN.{length, get_or}
use Rattle.answers.specs.declared.Refusal.{Refusal}
use Rattle.lists.specs.Write.{overwritten}
use Rattle.stuffing.specs.Stuffing.{stuff_after}
use Rattle.packet_encoder.specs.Writing.{with_checksum, packet_of}
use Rattle.device_status.specs.Status.{silence, error_byte, status, reply_bytes}
use Rattle.device_instructions.specs.Instructions.{Effect}
use Rattle.device_dispatch.specs.Reactions.{ReplyRule, silent, speaks, Reaction, own_id}
use Rattle.device_laws.specs.Refused.{table_if_refused, registered_if_refused}
use Rattle.device_laws.proofs.Theorems.{refused as reaction-refused}
use Rattle.device.specs.Device.{hardware_error_in, reply_by, executed, carry_out}
use Rattle.device.specs.Answers.{replied, answered_by, call_refusal, call_answer}
use Rattle.device.specs.Demand1.{LeftAlone, LeftByRefusal, Demand1}
use Rattle.device.proofs.Calls.{accepted}
use Rattle.device.proofs.Replies.{to_whomever}
use Rattle.device_status.specs.declared.Reply.{Reply}
use Rattle.device.specs.declared.Sent.{Sent}
use Rattle.device_instructions.specs.declared.RegisteredWrite.{RegisteredWrite}
use Rattle.device_dispatch.specs.declared.Heard.{Heard}

-- ---- by the answer: refused, or not

pub sent_by : (r : Option Refusal) (reply : Reply) (n slot : ℕ) → answered_by r reply ≡ replied n slot
    → (r ≡ None) × (length (reply_bytes reply) ≡ n) × (reply.slot ≡ slot)
sent_by None reply n slot e =
    let s : ◌≡◌ {A = Sent} (record { count = length (reply_bytes reply); slot = reply.slot }) (record { count = n; slot = slot }) = cc in
    (refl, ap (λ (x : Sent). x.count) s, ap (λ (x : Sent). x.slot) s)
sent_by (Some refusal) reply n slot e = let z : ◌≡◌ {A = ℕ} 0 1 = cc in absurd (omega arith)

pub refused_by : (r : Option Refusal) (reply : Reply) (refusal : Refusal) → answered_by r reply ≡ Err refusal → r ≡ Some refusal
refused_by None reply refusal e = let z : ◌≡◌ {A = ℕ} 0 1 = cc in absurd (omega arith)
refused_by (Some other) reply refusal e = cc

-- ---- the error byte of a status, whose first two body bytes need no stuffing

error_at : (id error : ℕ) (bytes : List ℕ) (slot : ℕ) (out : List ℕ) → get_or (overwritten out (reply_bytes (status id error bytes slot))) 8 0 ≡ error
unfolding packet_of with_checksum stuff_after
error_at id error bytes slot out = refl

carries : (replying : ReplyRule) (table : List ℕ) (e : Effect) (out : List ℕ) → 0 < length (reply_bytes (reply_by replying table e))
    → get_or (overwritten out (reply_bytes (reply_by replying table e))) 8 0 ≡ error_byte e.error (hardware_error_in e.table)
carries silent table e out h = absurd (omega arith)
carries (speaks least slot) table e out h = by_level (leb least (get_or table 68 0)) h
  where
    by_level : (b : Bool) → 0 < length (reply_bytes (cond b (status (own_id table) (error_byte e.error (hardware_error_in e.table)) e.bytes slot) silence))
        → get_or (overwritten out (reply_bytes (cond b (status (own_id table) (error_byte e.error (hardware_error_in e.table)) e.bytes slot) silence))) 8 0
        ≡ error_byte e.error (hardware_error_in e.table)
    by_level true l = error_at (own_id table) _ e.bytes slot out
    by_level false l = absurd (omega arith)

module _ (table : List ℕ) (w : RegisteredWrite) (heard : Heard) (id : ℕ) (body out : List ℕ) where
  refused_call : (refusal : Refusal) → call_answer table w heard id body out ≡ Err refusal → LeftAlone table w heard id body out
  refused_call refusal e =
      let r = refused_by (call_refusal table w out) _ refusal e in
      record { same_table = rw r; same_registered_lem = rw r; same_reply = rw r }

  module _ (n slot : ℕ) (e : call_answer table w heard id body out ≡ replied n slot) where
    passes : call_refusal table w out ≡ None
    passes = (sent_by (call_refusal table w out) _ n slot e).0

    left : ¬ ((executed table w heard id body).effect.error ≡ 0)
        → ((executed table w heard id body).effect.table ≡ table_if_refused table w heard body)
        × ((executed table w heard id body).effect.registered ≡ registered_if_refused w heard body)
    left =
        to_whomever table w heard id body
        (λ (r : Reaction). ¬ (r.effect.error ≡ 0)
        → (r.effect.table ≡ table_if_refused table w heard body) × (r.effect.registered ≡ registered_if_refused w heard body))
        (λ all. reaction-refused table w (accepted table w out passes).sized heard all body) (λ z. absurd (z refl))

    refused_instruction : ¬ ((executed table w heard id body).effect.error ≡ 0) → LeftByRefusal table w heard id body out
    refused_instruction z = let l = left z in record { left_table = rw passes l.0; left_registered = rw passes l.1 }

    in_status : 0 < n
        → get_or (overwritten out (reply_bytes (carry_out table w heard id body).reply)) 8 0
        ≡ error_byte (executed table w heard id body).effect.error (hardware_error_in (executed table w heard id body).effect.table)
    in_status h =
        carries (executed table w heard id body).replying table (executed table w heard id body).effect out
        (omega (arith, (sent_by (call_refusal table w out) _ n slot e).1))

pub demand_1 : Demand1
demand_1 =
    record {
      refused_call = refused_call;
      refused_instruction = refused_instruction;
      in_status = λ table w heard id body out n slot e h.
          let p = passes table w heard id body out n slot e in
          rw p (in_status table w heard id body out n slot e h);
    }
