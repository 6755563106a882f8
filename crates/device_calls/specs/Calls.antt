-- Our calls on a control table and a registered write, one after the other.
use Rattle.std.specs.Prelude.{Option}
use Rattle.std.specs.Prelude.{List, [], ◌∷◌, ℕ, ℤ}
use Rattle.answers.specs.declared.Refusal.{Refusal}
use Rattle.reading.specs.Calls.{Call}
use Rattle.reader_records.specs.declared.Reader.{Reader}
use Rattle.table_access.specs.Answers.{fresh_out, measure_out}
use Rattle.device.specs.Answers.{state_refusal, carried_table, carried_registered, call_table, call_registered}
use Rattle.device_instructions.specs.declared.RegisteredWrite.{RegisteredWrite}
use Rattle.device_dispatch.specs.declared.Heard.{Heard}
use Rattle.device_packet.specs.Exchange.{packet_table, packet_registered, exchange_table, exchange_registered}
use Rattle.board.specs.Board.{board_of, outcome}

pub record State : Type 0 where
  pub table : List ℕ
  pub registered : RegisteredWrite

-- a call, with all that it is given beside them
pub data DeviceCall : Type 0 where
  fresh : DeviceCall
  -- position and hardware error
  measurement : ℤ → ℕ → DeviceCall
  -- what was heard, its ID and its body; the reply buffer
  device : Heard → ℕ → List ℕ → List ℕ → DeviceCall
  -- a packet as received; the body buffer and the reply buffer
  exchange : List ℕ → List ℕ → List ℕ → DeviceCall
  -- the first calls of the two in two
  carry : Heard → ℕ → List ℕ → DeviceCall
  carry_packet : List ℕ → List ℕ → DeviceCall
  -- a board's call, with the reader that is lent to it
  on_board : Reader → Call → DeviceCall
  -- no call of ours: from here on the caller lends another registered write
  lend : RegisteredWrite → DeviceCall

abbrev pub state_of : List ℕ → RegisteredWrite → State
state_of table w = record { table = table; registered = w }

abbrev pub after_call : State → DeviceCall → State
after_call s fresh = state_of (fresh_out s.table) s.registered
after_call s (measurement position error) = state_of (measure_out s.table position error) s.registered
after_call s (device heard id body out) =
    state_of (call_table s.table s.registered heard id body out) (call_registered s.table s.registered heard id body out)
after_call s (exchange packet body out) =
    state_of (exchange_table s.table s.registered packet body out) (exchange_registered s.table s.registered packet body out)
after_call s (carry heard id body) =
    state_of (carried_table s.table s.registered heard id body) (carried_registered s.table s.registered heard id body)
after_call s (carry_packet packet body) =
    state_of (packet_table s.table s.registered packet body) (packet_registered s.table s.registered packet body)
after_call s (on_board reader c) =
    let b = (outcome (board_of reader s.table s.registered) c).board in
    state_of b.table b.registered
after_call s (lend w) = state_of s.table w

abbrev pub after_all : State → List DeviceCall → State
after_all s [] = s
after_all s (call ∷ calls) = after_all (after_call s call) calls

-- 21 to 23, by the state
abbrev pub refusal_in : State → Option Refusal
refusal_in s = state_refusal s.table s.registered
