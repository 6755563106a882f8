-- What is promised of boards, applied: a damaged Ping, directly followed by a Write of the goal position and a good Ping, and the
-- beginning of one more packet, cut into five chunks.
use Rattle.std.specs.Prelude.{None}
use Rattle.std.specs.Prelude.{◌≡◌, ℕ, ◌-◌, ◌≤◌, ◌<◌, pos, negsuc, take, drop, replicate}
use mathlib.Core.List.{List, [], ◌∷◌, ◌++◌, Memᴰ}
use Rattle.reading.specs.Reading.{Event, packet, bad_checksum, EventAt, reading}
use Rattle.reading.specs.Calls.{Call, feed, gap}
use Rattle.reading.specs.Lists.{model, after, took, given}
use Rattle.reading.specs.Promise.{since, given_at}
use Rattle.packet.specs.Verdict.{protocol2}
use Rattle.reader_records.specs.Records.{lent, left_by}
use Rattle.table_registers.specs.Registers.{device_id, goal_position}
use Rattle.table_items.specs.Items.{put}
use Rattle.table_access.specs.Fresh.{fresh_table, measured}
use Rattle.device_instructions.specs.Registered.{dropped}
use Rattle.device_instructions.specs.declared.RegisteredWrite.{RegisteredWrite}
use Rattle.device_status.specs.declared.Reply.{Reply}
use Rattle.device_status.specs.Status.{status}
use Rattle.board.specs.Board.{Board, board_of, board_refusal, outcome}
use Rattle.board_in_step.specs.InStep.{boards, hearing, shown_after, InStep}
use Rattle.board_in_step.specs.Measured.{LoopStep, line, measured as loop_step_measured, board_after, replies_in, InStepMeasured}
use Rattle.reader_applications.specs.Demand3.{earlier, bad_ping, ping_to_1, long_front, cut, followed}

-- Write of 512 at 116, and Pings to 2 and to all with a wrong checksum
abbrev pub write_goal : List ℕ
write_goal =
    0xFF ∷ 0xFF ∷ 0xFD ∷ 0x00 ∷ 0x01 ∷ 0x09 ∷ 0x00 ∷ 0x03 ∷ 0x74 ∷ 0x00 ∷ 0x00 ∷ 0x02 ∷ 0x00 ∷ 0x00 ∷ 0xCA ∷ 0x89 ∷ []

abbrev pub bad_ping_to_2 : List ℕ
bad_ping_to_2 = 0xFF ∷ 0xFF ∷ 0xFD ∷ 0x00 ∷ 0x02 ∷ 0x03 ∷ 0x00 ∷ 0x01 ∷ 0x19 ∷ 0x4F ∷ []

abbrev pub bad_ping_to_all : List ℕ
bad_ping_to_all = 0xFF ∷ 0xFF ∷ 0xFD ∷ 0x00 ∷ 0xFE ∷ 0x03 ∷ 0x00 ∷ 0x01 ∷ 0x31 ∷ 0x43 ∷ []

abbrev pub rest : List ℕ
rest = 0xFF ∷ 0xFF ∷ 0xFD ∷ []

-- the longest registered write
abbrev pub longest : RegisteredWrite
longest = record { address = 48; count = 8; bytes = replicate 8 0; min = pos 0; max = pos 0 }

-- a fresh board, and the same after a byte of noise and a finished gap
abbrev pub fresh : Board
fresh = board_of (lent (replicate 1030 0) 0) fresh_table longest

abbrev pub after_earlier : Board
after_earlier = after boards fresh earlier

-- the chunks behind this noise
abbrev pub chunks : List ℕ → List (List ℕ)
chunks noise = cut noise write_goal ping_to_1 rest

-- what a device answers to the damaged Ping, the Write and the good Ping
abbrev pub answers : List Reply
answers = status 1 0x03 [] 0 ∷ status 1 0x00 [] 0 ∷ status 1 0x00 (0x06 ∷ 0x04 ∷ 0x26 ∷ []) 0 ∷ []

-- the packets, and where they begin
abbrev pub found : List EventAt
found = (10, packet write_goal) ∷ (26, packet ping_to_1) ∷ []

-- events with these packets among them
abbrev pub Among : List EventAt → Type 0
Among events = (sooner : List EventAt) × (later : List EventAt) × (events ≡ sooner ++ (found ++ later))

-- with a damaged Ping to this very board
pub record Noisy : Type 0 where
  pub all_taken : took boards after_earlier (since (chunks bad_ping) 1) ≡ bad_ping ++ ((write_goal ++ (ping_to_1 ++ [])) ++ rest)
  -- 512 is stored, the registered write is as it was, and 03, 00 and the Ping's status are owed
  pub table : (shown_after after_earlier (since (chunks bad_ping) 1)).table ≡ put fresh_table goal_position 512
  pub registered : (shown_after after_earlier (since (chunks bad_ping) 1)).registered ≡ longest
  pub replies : (shown_after after_earlier (since (chunks bad_ping) 1)).replies ≡ answers
  -- table and registered write are as if only the packets had been heard
  pub same_table : (shown_after after_earlier (since (chunks bad_ping) 1)).table ≡ (hearing fresh_table longest (packet write_goal ∷ packet ping_to_1 ∷ [])).table
  pub same_registered_lem : (shown_after after_earlier (since (chunks bad_ping) 1)).registered ≡ longest

-- with one to another or to all: only the packets are answered, and a board on a clean line ends alike
pub record ForAnother (noise : List ℕ) : Type 0 where
  pub only_packets : shown_after after_earlier (since (chunks noise) 1) ≡ hearing fresh_table longest (packet write_goal ∷ packet ping_to_1 ∷ [])
  pub alike : shown_after after_earlier (since (chunks noise) 1) ≡ shown_after after_earlier (since (write_goal ∷ ping_to_1 ∷ []) 1)

-- the same with these bytes behind the packets
pub record ForAnotherBefore (noise behind : List ℕ) : Type 0 where
  pub only_packets : shown_after after_earlier (since (cut noise write_goal ping_to_1 behind) 1)
      ≡ hearing fresh_table longest (packet write_goal ∷ packet ping_to_1 ∷ [])
  pub alike : shown_after after_earlier (since (cut noise write_goal ping_to_1 behind) 1) ≡ shown_after after_earlier (since (write_goal ∷ ping_to_1 ∷ []) 1)

-- device 9 with a registered write of four bytes
abbrev pub few : RegisteredWrite
few = record { address = 116; count = 4; bytes = 5 ∷ replicate 7 0; min = pos 0; max = pos 4095 }

abbrev pub ninth : Board
ninth = board_of (lent (replicate 1030 0xAA) 0) (put fresh_table device_id 9) few

-- without a gap, once 1,030 bytes have followed a front that promises the longest packet
abbrev pub ByFeed : Type 0
ByFeed =
    (sooner : List Event) × (later : List Event)
    × (shown_after ninth (since (followed long_front ping_to_1 1030) 0) ≡ hearing (put fresh_table device_id 9) few (sooner ++ (packet ping_to_1 ∷ later)))

-- ---- another ID, behind noise that holds a packet to another device; only the gap calls give events

abbrev pub ping_to_2 : List ℕ
ping_to_2 = 0xFF ∷ 0xFF ∷ 0xFD ∷ 0x00 ∷ 0x02 ∷ 0x03 ∷ 0x00 ∷ 0x01 ∷ 0x19 ∷ 0x72 ∷ []

-- Write of 9 at 7, to 1
abbrev pub write_id : List ℕ
write_id = 0xFF ∷ 0xFF ∷ 0xFD ∷ 0x00 ∷ 0x01 ∷ 0x06 ∷ 0x00 ∷ 0x03 ∷ 0x07 ∷ 0x00 ∷ 0x09 ∷ 0x84 ∷ 0xE3 ∷ []

abbrev pub ping_to_9 : List ℕ
ping_to_9 = 0xFF ∷ 0xFF ∷ 0xFD ∷ 0x00 ∷ 0x09 ∷ 0x03 ∷ 0x00 ∷ 0x01 ∷ 0x1A ∷ 0x6E ∷ []

-- a fresh board whose bytes are not 0
abbrev pub filled : Board
filled = board_of (lent (replicate 1030 0xAA) 0) fresh_table longest

-- one with nothing registered, and this in all bytes of its reader
abbrev pub unregistered : ℕ → Board
unregistered filler = board_of (lent (replicate 1030 filler) 0) fresh_table dropped

-- a front that promises the longest packet, and a Ping to 2; then the packets; then a Ping to 1, which is another device by then
abbrev pub cuts : List (List ℕ)
cuts = (long_front ++ take 4 ping_to_2) ∷ (drop 4 ping_to_2 ++ (write_id ++ take 3 ping_to_9)) ∷ (drop 3 ping_to_9 ++ ping_to_1) ∷ []

-- the packets alone, with what is not taken fed again
abbrev pub clean_cuts : List (List ℕ)
clean_cuts = take 5 write_id ∷ (drop 5 write_id ++ take 2 ping_to_9) ∷ take 2 ping_to_9 ∷ drop 2 ping_to_9 ∷ []

pub record Renamed : Type 0 where
  pub only_packets : shown_after filled (since cuts 6) ≡ hearing fresh_table longest (packet write_id ∷ packet ping_to_9 ∷ [])
  pub table : (shown_after filled (since cuts 6)).table ≡ put fresh_table device_id 9
  pub same_table : (shown_after filled (since cuts 6)).table ≡ (hearing fresh_table longest (packet write_id ∷ packet ping_to_9 ∷ [])).table
  pub replies : (shown_after filled (since cuts 6)).replies ≡ status 1 0x00 [] 0 ∷ status 9 0x00 (0x06 ∷ 0x04 ∷ 0x26 ∷ []) 0 ∷ []
  pub alike : shown_after filled (since cuts 6) ≡ shown_after fresh (since clean_cuts 2)

-- the same with nothing registered
pub record RenamedUnregistered : Type 0 where
  pub only_packets : shown_after (unregistered 0xAA) (since cuts 6) ≡ hearing fresh_table dropped (packet write_id ∷ packet ping_to_9 ∷ [])
  pub table : (shown_after (unregistered 0xAA) (since cuts 6)).table ≡ put fresh_table device_id 9
  pub same_table : (shown_after (unregistered 0xAA) (since cuts 6)).table ≡ (hearing fresh_table dropped (packet write_id ∷ packet ping_to_9 ∷ [])).table
  pub replies : (shown_after (unregistered 0xAA) (since cuts 6)).replies ≡ status 1 0x00 [] 0 ∷ status 9 0x00 (0x06 ∷ 0x04 ∷ 0x26 ∷ []) 0 ∷ []
  pub alike : shown_after (unregistered 0xAA) (since cuts 6) ≡ shown_after (unregistered 0) (since clean_cuts 2)

-- boards that hold seven bytes of a Ping; 0 follows them in the second
abbrev pub holding : ℕ → Board
holding filler = board_of (lent (take 7 ping_to_1 ++ replicate 1023 filler) 7) fresh_table longest

-- one that holds as many as can be held, a Ping and 0, with nothing registered
abbrev pub full : Board
full = board_of (lent (ping_to_1 ++ replicate 1020 0) 1030) fresh_table dropped

-- demand 3, of the board itself
pub record AsReader : Type 0 where
  pub counted : took boards after_earlier (since (chunks bad_ping) 1) ≡ took (model protocol2) [] (since (chunks bad_ping) 1)
  pub events : given boards after_earlier (since (chunks bad_ping) 1) ≡ bad_checksum 1 ∷ packet write_goal ∷ packet ping_to_1 ∷ []
  pub only_packets : (p : ℕ) (e : Event) → Memᴰ (p, e) (given_at protocol2 boards after_earlier (chunks bad_ping) 1) → 10 ≤ p → p < 36
      → Memᴰ {A = EventAt} (p, e) found
  pub reads : Among (reading protocol2 (took boards after_earlier (since (chunks bad_ping) 1)))
  pub out_by_gap : Among (given_at protocol2 boards after_earlier (chunks bad_ping) 1)
  -- a Ping is there but for its last bytes
  pub none_arriving : (p : ℕ) (e : Event) → Memᴰ (p, e) (given_at protocol2 boards after_earlier (write_goal ∷ take 7 ping_to_1 ∷ []) 0) → p < 16
  pub out_by_feed : (sooner : List EventAt) × (later : List EventAt)
      × (given_at protocol2 boards after_earlier (followed long_front ping_to_1 1030) 0 ≡ sooner ++ ((7, packet ping_to_1) ∷ later))

pub record Lives : Type 0 where
  pub noisy : Noisy
  pub for_another : ForAnother bad_ping_to_2
  pub for_all : ForAnother bad_ping_to_all
  pub for_all_alone : ForAnotherBefore bad_ping_to_all []
  -- a gap on an idle line: no noise, no packets and nothing behind them
  pub idle : shown_after (unregistered 0xAA) (since [] 1) ≡ hearing fresh_table dropped []
  pub idle_events : given boards (unregistered 0xAA) (since [] 1) ≡ []
  pub renamed : Renamed
  pub renamed_unregistered : RenamedUnregistered
  pub by_feed : ByFeed
  pub as_reader : AsReader
  -- any calls: a gap call on the first seven bytes of a Ping hears nothing
  pub each_once : shown_after fresh (feed (take 7 ping_to_1) ∷ gap ∷ []) ≡ hearing fresh_table longest []
  -- feeding calls behind a gap, on a board that holds bytes
  pub each_once_held : shown_after (holding 0xAA) (feed (drop 7 ping_to_1) ∷ gap ∷ feed write_goal ∷ [])
      ≡ hearing fresh_table longest (packet ping_to_1 ∷ packet write_goal ∷ [])
  pub never_refused_held : board_refusal (after boards (holding 0xAA) (gap ∷ feed write_id ∷ gap ∷ feed ping_to_9 ∷ [])) ≡ None
  pub each_once_full : shown_after full (gap ∷ []) ≡ hearing fresh_table dropped (packet ping_to_1 ∷ [])
  pub never_refused_full : board_refusal (after boards full (gap ∷ feed write_id ∷ gap ∷ feed ping_to_9 ∷ [])) ≡ None
  pub never_refused : board_refusal (after boards fresh (since (chunks bad_ping) 1)) ≡ None
  -- where 0 followed the held bytes it does afterwards, and the reader is left as by its own calls
  pub stays_clean : drop after_earlier.reader.count after_earlier.reader.bytes ≡ replicate (1030 - after_earlier.reader.count) 0
  pub stays_clean_held : drop (after boards (holding 0) (feed (drop 7 ping_to_1) ∷ feed rest ∷ [])).reader.count
      (after boards (holding 0) (feed (drop 7 ping_to_1) ∷ feed rest ∷ [])).reader.bytes
      ≡ replicate (1030 - (after boards (holding 0) (feed (drop 7 ping_to_1) ∷ feed rest ∷ [])).reader.count) 0
  pub stays_clean_full : drop 1020 (after boards full (gap ∷ [])).reader.bytes ≡ replicate 10 0
  pub as_a_reader_held : (outcome (holding 0) gap).board.reader ≡ left_by (lent (take 7 ping_to_1 ++ replicate 1023 0) 7) gap
  pub as_a_reader_full : (outcome full gap).board.reader ≡ left_by (lent (ping_to_1 ++ replicate 1020 0) 1030) gap
  pub as_a_reader : (outcome fresh (feed (ping_to_1 ++ ping_to_1))).board.reader ≡ left_by (lent (replicate 1030 0) 0) (feed (ping_to_1 ++ ping_to_1))

abbrev pub InStepApplied : Type 0
InStepApplied = InStep → Lives

-- ---- measurements within a packet and between two

abbrev pub steps : List LoopStep
steps = line (feed (take 9 write_goal)) ∷ loop_step_measured (negsuc 4095) 1 ∷ line (feed (drop 9 write_goal)) ∷ loop_step_measured (pos 166) 4 ∷ line (feed ping_to_1) ∷ line gap ∷ []

pub record Measuring : Type 0 where
  -- what is measured last, and the goal position, are stored, and the Ping is answered with the alert
  pub table : (board_after fresh steps).table ≡ measured (put (measured fresh_table (negsuc 4095) 1) goal_position 512) (pos 166) 4
  pub replies : replies_in fresh steps ≡ status 1 0x80 [] 0 ∷ status 1 0x80 (0x06 ∷ 0x04 ∷ 0x26 ∷ []) 0 ∷ []
  pub heard : packet write_goal ∷ packet ping_to_1 ∷ [] ≡ given boards fresh (feed (take 9 write_goal) ∷ feed (drop 9 write_goal) ∷ feed ping_to_1 ∷ gap ∷ [])
  -- the bytes taken and the reader are those of the calls alone
  pub taken : write_goal ++ (ping_to_1 ++ []) ≡ took boards fresh (feed (take 9 write_goal) ∷ feed (drop 9 write_goal) ∷ feed ping_to_1 ∷ gap ∷ [])
  pub reader : (board_after fresh steps).reader ≡ (after boards fresh (feed (take 9 write_goal) ∷ feed (drop 9 write_goal) ∷ feed ping_to_1 ∷ gap ∷ [])).reader
  pub never_refused : board_refusal (board_after fresh steps) ≡ None

abbrev pub full_steps : List LoopStep
full_steps = loop_step_measured (pos 166) 4 ∷ line gap ∷ []

-- after these steps, `calls` without the measurements: the table, the replies, what was heard and which bytes were taken
pub record MeasuringOn (b : Board) (steps : List LoopStep) (calls : List Call) (table : List ℕ) (replies : List Reply) (events : List Event)
    (bytes : List ℕ) : Type 0 where
  pub table_after : (board_after b steps).table ≡ table
  pub replies_owed : replies_in b steps ≡ replies
  pub heard : events ≡ given boards b calls
  -- the bytes taken and the reader are those of the calls alone
  pub taken : bytes ≡ took boards b calls
  pub reader : (board_after b steps).reader ≡ (after boards b calls).reader
  pub never_refused : board_refusal (board_after b steps) ≡ None

-- and on a board that holds the Ping
abbrev pub InStepMeasuredApplied : Type 0
InStepMeasuredApplied =
    InStepMeasured
    → Measuring
    × MeasuringOn full full_steps (gap ∷ []) (measured fresh_table (pos 166) 4) (status 1 0x80 (0x06 ∷ 0x04 ∷ 0x26 ∷ []) 0 ∷ [])
    (packet ping_to_1 ∷ []) []
