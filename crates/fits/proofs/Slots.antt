-- The reply slot of the device, and the calls on a board.
use Rattle.std.specs.Prelude.{Ok}
use Rattle.std.specs.Prelude.{Err, Result}
use Rattle.std.specs.Prelude.{None, Option, Some}
use mathlib.Core.Path.{◌≡◌, refl}
use mathlib.Core.List.{List, []}
use Prim.Native.Nat.{ℕ, zero, suc, ◌≤◌, ◌<◌, max}
use native.Mathlib.Omega.{arith}
use borrow.Author.Tests.{leb-true}
use lib.ListN.{length, length-take}
use Rattle.answers.specs.declared.Refusal.{Refusal}
use Rattle.stuffing.specs.Stuffing.{unstuff}
use Rattle.stuffing.specs.Answers.{removal_refusal}
use Rattle.reading.specs.Reading.{Event, packet, bad_checksum}
use Rattle.reading.specs.Calls.{Call, call}
use Rattle.reading.specs.Lists.{chunk_of}
use Rattle.reading.proofs.Held.{held_bound}
use Rattle.packet_front.specs.Front.{id_of}
use Rattle.packet.specs.Packet.{body_of}
use Rattle.packet.specs.Verdict.{protocol2}
use Rattle.packet.proofs.Laws.{laws}
use Rattle.reader_records.specs.Records.{held_in}
use Rattle.device_instructions.specs.declared.RegisteredWrite.{RegisteredWrite}
use Rattle.device_dispatch.specs.declared.Heard.{Heard}
use Rattle.device_dispatch.specs.declared.Heard.TheVariants.{Packet, BadChecksum}
use Rattle.device.specs.Answers.{replied, carried_reply, call_answer, reply_unless, state_refusal}
use Rattle.device.proofs.Written.{status_written, slot_within}
use Rattle.device_packet.specs.Exchange.{heard_of, refused_or}
use Rattle.board.specs.Board.{Board, board_refusal, carried_if_any, outcome, reader_left}
use Rattle.board.specs.Numbers.{count_of, board_step}
use Rattle.board.proofs.Refusals.{accepted}
use Rattle.numbers.specs.Exported.{device_numbers}
use Rattle.fits.specs.Fits.{AtMost, DeviceFits, BoardFits}
use Rattle.fits.proofs.Counts.{count_at_most, refused_at_most}
use Rattle.fits.proofs.Steps.{takes, packet_fits}
use Rattle.device.specs.declared.Sent.{Sent}
use Rattle.answers.specs.Answers.{exported}

-- ---- the device

by_sent : (kept : RegisteredWrite) (a : Result Sent Refusal) → ((n slot : ℕ) → a ≡ replied n slot → slot ≤ 252) → (device_numbers a kept).slot ≤ 252
by_sent kept (Ok sent) h = h sent.count sent.slot refl
by_sent kept (Err refusal) h = omega arith

module _ (table : List ℕ) (w : RegisteredWrite) where
  call_slot : (kept : RegisteredWrite) (heard : Heard) (id : ℕ) (body out : List ℕ) → (device_numbers (call_answer table w heard id body out) kept).slot ≤ 252
  call_slot kept heard id body out = by_sent kept (call_answer table w heard id body out) (slot_within.in_one_lem table w heard id body out)

  module _ (packet body : List ℕ) where
    exchange_slot : (kept : RegisteredWrite) (out : List ℕ) (r : Option Refusal)
        → (device_numbers (refused_or r (call_answer table w Packet (heard_of packet).id (heard_of packet).body out)) kept).slot ≤ 252
    exchange_slot kept out None = call_slot kept Packet (heard_of packet).id (heard_of packet).body out
    exchange_slot kept out (Some refusal) = omega arith

    reply_slot : (r : Option Refusal)
        → (reply_unless r (carried_reply table w Packet (heard_of packet).id (heard_of packet).body)).slot ≤ 252
    reply_slot None = slot_within.in_two_lem table w Packet (heard_of packet).id (heard_of packet).body
    reply_slot (Some refusal) = omega arith

-- a status has 21 bytes at the most, and silence none
sent_count : (kept : RegisteredWrite) (most : ℕ) (a : Result Sent Refusal) → ((n slot : ℕ) → a ≡ replied n slot → 0 < n → n ≤ most)
    → AtMost most (device_numbers a kept).count
sent_count kept most (Ok sent) h = by_count sent.count (h sent.count sent.slot refl)
  where
    by_count : (n : ℕ) → (0 < n → n ≤ most) → AtMost most (exported (Ok n))
    by_count zero g = count_at_most most 0 (omega arith)
    by_count (suc n) g = count_at_most most (suc n) (g (omega arith))
sent_count kept most (Err refusal) h = refused_at_most most refusal

module _ (table : List ℕ) (w kept : RegisteredWrite) (most : ℕ) (m : 21 ≤ most) where
  call_count : (heard : Heard) (id : ℕ) (body out : List ℕ) → AtMost most (device_numbers (call_answer table w heard id body out) kept).count
  call_count heard id body out =
      sent_count kept most (call_answer table w heard id body out)
      (λ n slot e h. let k = (status_written table w heard id body out n slot e h).short in omega (arith, k, m))

  exchange_count : (bytes out : List ℕ) (r : Option Refusal)
      → AtMost most (device_numbers (refused_or r (call_answer table w Packet (heard_of bytes).id (heard_of bytes).body out)) kept).count
  exchange_count bytes out None = call_count Packet (heard_of bytes).id (heard_of bytes).body out
  exchange_count bytes out (Some refusal) = refused_at_most most refusal

pub device_fits : DeviceFits
device_fits =
    record {
      slot = λ table w kept heard id body out. let k = call_slot table w kept heard id body out in omega (arith, k);
      packet_slot = λ table w kept packet body out.
          let k = exchange_slot table w packet body kept out (removal_refusal (body_of packet) body) in omega (arith, k);
      waiting_slot = λ table w heard id body. let k = slot_within.in_two_lem table w heard id body in omega (arith, k);
      waiting_packet_slot = λ table w packet body.
          let k = reply_slot table w packet body (removal_refusal (body_of packet) body) in omega (arith, k);
      count = λ table w kept heard id body out. call_count table w kept _ (leb-true _ _ refl) heard id body out;
      packet_count = λ table w kept packet body out.
          exchange_count table w kept _ (leb-true _ _ refl) packet out (removal_refusal (body_of packet) body);
    }

-- ---- a board

module _ (b : Board) (c : Call) where
  by_event : state_refusal b.table b.registered ≡ None → (e : Option Event) → (carried_if_any b.table b.registered e).reply.slot ≤ 252
  by_event s None = omega arith
  by_event s (Some (packet bytes)) = rw s at (slot_within.in_two_lem b.table b.registered Packet (id_of bytes) (unstuff (body_of bytes)))
  by_event s (Some (bad_checksum id)) = rw s at (slot_within.in_two_lem b.table b.registered BadChecksum id [])

  by_count : (e : Option Event) → (call protocol2 (held_in b.reader) c).answer ≡ e → count_of e ≤ 1031
  by_count None i = omega arith
  by_count (Some (packet w)) i = packet_fits protocol2 laws (held_in b.reader) c w i
  by_count (Some (bad_checksum id)) i = omega arith

  step_taken : (r : Option Refusal) → board_refusal b ≡ r → (board_step b c).taken ≤ length (chunk_of c)
  unfolding board_step outcome
  step_taken None e = rw e (takes protocol2 laws (held_in b.reader) c)
  step_taken (Some refusal) e = rw e (omega arith)

  step_count : (r : Option Refusal) → board_refusal b ≡ r → (board_step b c).count ≤ 1031
  unfolding board_step outcome
  step_count None e = rw e (by_count (call protocol2 (held_in b.reader) c).answer refl)
  step_count (Some refusal) e = rw e (omega arith)

  step_slot : (r : Option Refusal) → board_refusal b ≡ r → (board_step b c).reply.slot ≤ 252
  unfolding board_step outcome
  step_slot None e = rw e (by_event (accepted b e).state (call protocol2 (held_in b.reader) c).answer)
  step_slot (Some refusal) e = rw e (omega arith)

  left_held : (r : Option Refusal) → board_refusal b ≡ r → (outcome b c).board.reader.count ≤ max b.reader.count 1030
  unfolding outcome reader_left
  left_held None e =
      let l = (accepted b e).held in
      let k = held_bound protocol2 laws (held_in b.reader) c (simp length-take (omega (arith, l))) in
      rw e (omega (arith, k))
  left_held (Some refusal) e = rw e (omega arith)

pub board_fits : BoardFits
board_fits =
    record {
      taken = λ b c. let k = step_taken b c (board_refusal b) refl in omega (arith, k);
      count = λ b c. let k = step_count b c (board_refusal b) refl in omega (arith, k);
      held = λ b c. let k = left_held b c (board_refusal b) refl in omega (arith, k);
      slot = λ b c. let k = step_slot b c (board_refusal b) refl in omega (arith, k);
    }
