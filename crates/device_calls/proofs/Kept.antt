-- What each change of a table keeps outlasts every list of calls, refused ones among them.
use Rattle.std.specs.Prelude.{None, Option, Some}
use mathlib.Core.List.{List, [], ◌∷◌}
use Prim.Native.Nat.{ℕ}
use Rattle.answers.specs.Refusals.{unless_refused}
use Rattle.answers.specs.declared.Refusal.{Refusal}
use Rattle.device_instructions.proofs.Kept.{Kept}
use Rattle.stuffing.specs.Stuffing.{unstuff}
use Rattle.stuffing.specs.Answers.{removal_refusal}
use Rattle.reading.specs.Reading.{Event, packet, bad_checksum}
use Rattle.reading.specs.Calls.{Call, call}
use Rattle.packet_front.specs.Front.{id_of}
use Rattle.packet.specs.Packet.{body_of}
use Rattle.packet.specs.Verdict.{protocol2}
use Rattle.reader_records.specs.declared.Reader.{Reader}
use Rattle.reader_records.specs.Records.{held_in}
use Rattle.device.proofs.Stays.{executed_keeps, carry_keeps, call_keeps}
use Rattle.device_instructions.specs.declared.RegisteredWrite.{RegisteredWrite}
use Rattle.device_dispatch.specs.declared.Heard.TheVariants.{Packet, BadChecksum}
use Rattle.device_packet.specs.Exchange.{heard_of, body_refusal}
use Rattle.board.specs.Board.{board_of, carried_if_any, board_refusal, outcome_unless, outcome}
use Rattle.device_calls.specs.Calls.{State, DeviceCall, fresh, measurement, device, exchange, carry, carry_packet, on_board, lend, after_call, after_all}

module _ (P : List ℕ → Type 0) (kept : Kept P) where
  -- of a call on a packet, by what removing the stuffing refuses
  unless_keeps : (r : Option Refusal) (old new : List ℕ) → P old → P new → P (unless_refused r old new)
  unless_keeps None old new p q = q
  unless_keeps (Some number) old new p q = p

  event_keeps : (table : List ℕ) → P table → (w : RegisteredWrite) (a : Option Event) → P (carried_if_any table w a).table
  event_keeps table p w None = p
  event_keeps table p w (Some (packet bytes)) = executed_keeps P kept table p w Packet (id_of bytes) (unstuff (body_of bytes))
  event_keeps table p w (Some (bad_checksum id)) = executed_keeps P kept table p w BadChecksum id []

  board_keeps : (reader : Reader) (table : List ℕ) → P table → (w : RegisteredWrite) (c : Call) → P (outcome (board_of reader table w) c).board.table
  unfolding outcome
  board_keeps reader table p w c = by (board_refusal (board_of reader table w))
    where
      by : (r : Option Refusal) → P (outcome_unless r (board_of reader table w) c).board.table
      by None = event_keeps table p w (call protocol2 (held_in reader) c).answer
      by (Some number) = p

  pub after_keeps : (s : State) → P s.table → (call : DeviceCall) → P (after_call s call).table
  after_keeps s p fresh = kept.by_fresh s.table p
  after_keeps s p (measurement position error) = kept.by_measurement s.table p position error
  after_keeps s p (device heard id body out) = call_keeps P kept s.table p s.registered heard id body out
  after_keeps s p (exchange bytes body out) =
      unless_keeps (body_refusal s.table s.registered bytes body out) s.table _ p
      (call_keeps P kept s.table p s.registered Packet (heard_of bytes).id (heard_of bytes).body out)
  after_keeps s p (carry heard id body) = carry_keeps P kept s.table p s.registered heard id body
  after_keeps s p (carry_packet bytes body) =
      unless_keeps (removal_refusal (body_of bytes) body) s.table _ p
      (carry_keeps P kept s.table p s.registered Packet (heard_of bytes).id (heard_of bytes).body)
  after_keeps s p (on_board reader c) = board_keeps reader s.table p s.registered c
  after_keeps s p (lend w) = p

  pub all_keep : (calls : List DeviceCall) (s : State) → P s.table → P (after_all s calls).table
  all_keep [] s p = p
  all_keep (call ∷ calls) s p = all_keep calls (after_call s call) (after_keeps s p call)
