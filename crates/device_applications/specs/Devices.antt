-- What is promised of the device, applied: lists of calls, refusals, statuses, Action and the limits, the call in two, packets.
use Rattle.std.specs.Prelude.{Err}
use Rattle.std.specs.Prelude.{None, Some}
use Rattle.std.specs.Prelude.{◌≡◌, true, List, [], ◌∷◌, ◌++◌, ℕ, ◌≤◌, pos, take, replicate, get_or}
use Rattle.answers.specs.declared.Refusal.TheVariants.{BadStuffing, NoRoom, BadRegistered}
use Rattle.reading.specs.Calls.{feed}
use Rattle.packet_front.specs.Front.{id_of}
use Rattle.packet.specs.Packet.{WellFormed}
use Rattle.reader_records.specs.Records.{lent}
use Rattle.table_registers.specs.Registers.{firmware_version, device_id, max_position, min_position, lamp, status_return_level, registered_instruction, hardware_error, goal_velocity, goal_position}
use Rattle.table_items.specs.Items.{put, value_of}
use Rattle.table_rules.specs.Rules.{goal_inside}
use Rattle.table_access.specs.Fresh.{fresh_table, measured}
use Rattle.device_instructions.specs.Registered.{dropped}
use Rattle.device_instructions.specs.declared.RegisteredWrite.{RegisteredWrite}
use Rattle.device_dispatch.specs.declared.Heard.TheVariants.{Packet, BadChecksum}
use Rattle.device_status.specs.Status.{status, silence}
use Rattle.device.specs.Answers.{replied, state_refusal, carried_table, carried_registered, carried_reply, call_table, call_registered, call_out}
use Rattle.device.specs.Demand1.{error_number}
use Rattle.device.specs.Promises.{DevicePromises}
use Rattle.device.specs.Split.{Split, answer_of_both, out_of_both}
use Rattle.device_packet.specs.Exchange.{heard_of, packet_refusal, packet_answer, packet_reply, packet_table, packet_registered, packet_body, exchange_refusal, exchange_answer, exchange_table, exchange_registered, exchange_body, exchange_out}
use Rattle.device_calls.specs.Calls.{State, DeviceCall, fresh, measurement, device, exchange, carry, carry_packet, on_board, lend, state_of, after_all, refusal_in}
use Rattle.device_calls.specs.Stays.{StaysAccepted}
use Rattle.device_calls.specs.GoalWithinLimits.{GoalWithinLimits}
use Rattle.device_packet.specs.Promises.{ExchangePromises}
use Rattle.cases.specs.Cases.{ping_to_all, ping_status, write_goal, write_status}
use Rattle.cases.specs.Exchanges.{goal_at_512, registered_table, marked_limits, goal_too_large, goal_registered, ping_wrong_checksum, register_goal, range_status}

-- a reply buffer, and one that is a byte short; a body buffer
abbrev pub room : List ℕ
room = replicate 32 0xAA

abbrev pub short : List ℕ
short = replicate 31 0xAA

abbrev pub body_room : List ℕ
body_room = replicate 16 0xAA

-- ---- lists of calls

-- Write of 1 to the status return level
abbrev pub write_level : List ℕ
write_level = 0xFF ∷ 0xFF ∷ 0xFD ∷ 0x00 ∷ 0x01 ∷ 0x06 ∷ 0x00 ∷ 0x03 ∷ 0x44 ∷ 0x00 ∷ 0x01 ∷ 0x88 ∷ 0xE6 ∷ []

-- the longest registered write
abbrev pub longest : RegisteredWrite
longest = record { address = 48; count = 8; bytes = replicate 8 0; min = pos 0; max = pos 0 }

-- one call of each kind, each of which changes something
abbrev pub behind_fresh : List DeviceCall
behind_fresh =
    measurement (pos 166) 0
    ∷ device Packet 1 (0x03 ∷ 65 ∷ 0 ∷ 1 ∷ []) room
    ∷ exchange register_goal body_room room
    ∷ carry Packet 1 (0x03 ∷ 104 ∷ 0 ∷ 10 ∷ 0 ∷ 0 ∷ 0 ∷ [])
    ∷ carry_packet write_goal body_room
    ∷ on_board (lent [] 0) (feed write_level)
    ∷ lend longest
    ∷ []

abbrev pub each_kind : List DeviceCall
each_kind = fresh ∷ behind_fresh

-- from a table with another goal velocity; and so with nothing registered
abbrev pub start : State
start = state_of (put fresh_table goal_velocity 5) longest

abbrev pub none_start : State
none_start = state_of (put fresh_table goal_velocity 5) dropped

-- lamp on, goal velocity 10, goal position 512, status return level 1
abbrev pub ended : State
ended =
    state_of
    (put (put (put (put (put (measured fresh_table (pos 166) 0) lamp 1) registered_instruction 1) goal_velocity 10) goal_position 512) status_return_level 1)
    longest

-- device 252, its table restored from a store: a firmware version that no fresh call leaves, and the goal position at max position
abbrev pub stored : State
stored =
    state_of
    (put (put (put (put (put fresh_table firmware_version 39) device_id 252) min_position 100) max_position 4000) goal_position 4000)
    longest

-- Reg Write of 100 at 116 to it, and Write of 1 to its lamp
abbrev pub register_low : List ℕ
register_low =
    0xFF ∷ 0xFF ∷ 0xFD ∷ 0x00 ∷ 0xFC ∷ 0x09 ∷ 0x00 ∷ 0x04 ∷ 0x74 ∷ 0x00 ∷ 0x64 ∷ 0x00 ∷ 0x00 ∷ 0x00 ∷ 0x64 ∷ 0xB2 ∷ []

abbrev pub write_lamp : List ℕ
write_lamp = 0xFF ∷ 0xFF ∷ 0xFD ∷ 0x00 ∷ 0xFC ∷ 0x06 ∷ 0x00 ∷ 0x03 ∷ 0x41 ∷ 0x00 ∷ 0x01 ∷ 0x1F ∷ 0x94 ∷ []

-- no fresh call and nothing lent; the goal position goes to min position by an Action
abbrev pub on_stored : List DeviceCall
on_stored =
    exchange register_low body_room room
    ∷ device BadChecksum 252 [] room
    ∷ carry Packet 252 (0x05 ∷ [])
    ∷ on_board (lent [] 0) (feed write_lamp)
    ∷ measurement (pos 166) 4
    ∷ []

abbrev pub ended_stored : State
ended_stored = state_of (measured (put (put stored.table lamp 1) goal_position 100) (pos 166) 4) dropped

-- a registered write that says 9 bytes
abbrev pub too_many : RegisteredWrite
too_many = record { address = 0; count = 9; bytes = replicate 8 0; min = pos 0; max = pos 0 }

abbrev pub StaysAcceptedApplied : Type 0
StaysAcceptedApplied =
    StaysAccepted
    → (after_all start each_kind ≡ ended)
    × (refusal_in ended ≡ None)
    × (refusal_in (state_of ended.table too_many) ≡ Some BadRegistered)
    × (after_all stored on_stored ≡ ended_stored)
    × (refusal_in ended_stored ≡ None)
    × (refusal_in (state_of ended_stored.table too_many) ≡ Some BadRegistered)
    -- where nothing is registered at first
    × (after_all none_start each_kind ≡ ended)
    × (refusal_in (after_all none_start each_kind) ≡ None)
    × (refusal_in (state_of (after_all none_start each_kind).table too_many) ≡ Some BadRegistered)

-- limits 100 and 100, and a goal position outside them, as a store might have left them
abbrev pub restored : State
restored = state_of (put (put stored.table max_position 100) goal_position 4095) longest

abbrev pub GoalWithinLimitsApplied : Type 0
GoalWithinLimitsApplied =
    GoalWithinLimits
    → (goal_inside ended.table ≡ true)
    × (goal_inside ended_stored.table ≡ true)
    × (goal_inside (after_all (state_of (replicate 136 0xFF) longest) each_kind).table ≡ true)
    -- a Reboot, and then the calls
    × (goal_inside (after_all restored (carry Packet 252 (0x08 ∷ []) ∷ on_stored)).table ≡ true)
    -- the same where nothing is registered
    × (goal_inside (after_all none_start on_stored).table ≡ true)
    × (goal_inside (after_all none_start each_kind).table ≡ true)
    × (goal_inside (after_all none_start (carry Packet 1 (0x08 ∷ []) ∷ on_stored)).table ≡ true)

-- ---- refusals, statuses and limits, of the device call

-- Write of 4,096 at 116
abbrev pub write_too_large : List ℕ
write_too_large = 0x03 ∷ 116 ∷ 0 ∷ 0x00 ∷ 0x10 ∷ 0 ∷ 0 ∷ []

-- a table with a registered write and another max position
abbrev pub other_limits : List ℕ
other_limits = put registered_table max_position 4000

-- one with a hardware error
abbrev pub alerted : List ℕ
alerted = put registered_table hardware_error 4

-- the same of device 252, with FF FF FD 00 in both limits, and a Sync Read of them from 3, 2 and 252: the longest status, in slot 2
abbrev pub marked : List ℕ
marked = put (put marked_limits device_id 252) hardware_error 4

abbrev pub sync_limits : List ℕ
sync_limits = 0x82 ∷ 48 ∷ 0 ∷ 8 ∷ 0 ∷ 3 ∷ 2 ∷ 252 ∷ []

-- one of 135 bytes
abbrev pub cut : List ℕ
cut = take 135 alerted

-- both limits, registered under limits of 100 and 4,000, and a table with these
abbrev pub limits_registered : RegisteredWrite
limits_registered =
    record {
      address = 48;
      count = 8;
      bytes = 0xB8 ∷ 0x0B ∷ 0x00 ∷ 0x00 ∷ 0xC8 ∷ 0x00 ∷ 0x00 ∷ 0x00 ∷ [];
      min = pos 100;
      max = pos 4000;
    }

abbrev pub limited : List ℕ
limited = put (put (put registered_table min_position 100) max_position 4000) goal_position 512

pub record DeviceApplied : Type 0 where
  -- the reply buffer is short: 24, and nothing changes
  pub call_table_lem : call_table goal_at_512 goal_registered Packet 1 (0x05 ∷ []) short ≡ goal_at_512
  pub call_registered_lem : call_registered goal_at_512 goal_registered Packet 1 (0x05 ∷ []) short ≡ goal_registered
  pub call_reply : call_out goal_at_512 goal_registered Packet 1 (0x05 ∷ []) short ≡ short
  -- so with a table of 135 bytes: 21, though registered write and reply buffer are bad too, and a bad checksum was heard
  pub cut_table : call_table cut too_many BadChecksum 1 [] short ≡ cut
  pub cut_registered : call_registered cut too_many BadChecksum 1 [] short ≡ too_many
  pub cut_reply : call_out cut too_many BadChecksum 1 [] short ≡ short
  -- a refused Write and a bad checksum leave table and registered write; a refused Action, answered or not, has dropped it
  pub write_table : call_table registered_table longest Packet 1 write_too_large room ≡ registered_table
  pub write_registered : call_registered registered_table longest Packet 1 write_too_large room ≡ longest
  pub checksum_table : call_table alerted goal_registered BadChecksum 1 [] room ≡ alerted
  pub checksum_registered : call_registered alerted goal_registered BadChecksum 1 [] room ≡ goal_registered
  pub action_table : call_table registered_table longest Packet 254 (0x05 ∷ []) room ≡ fresh_table
  pub action_registered : call_registered registered_table longest Packet 254 (0x05 ∷ []) room ≡ dropped
  -- 04 and the alert in the status, which is a packet with the device's ID
  pub error_byte_lem : get_or (call_out alerted goal_too_large Packet 1 (0x05 ∷ []) room) 8 0 ≡ 0x84
  pub well_formed : WellFormed (take 11 (call_out alerted goal_too_large Packet 1 (0x05 ∷ []) room))
  pub own_id_lem : id_of (take 11 (call_out alerted goal_too_large Packet 1 (0x05 ∷ []) room)) ≡ 1
  -- nothing is registered: 24 leaves it so, and an Action is refused 02
  pub none_registered : call_registered fresh_table dropped Packet 1 (0x05 ∷ []) short ≡ dropped
  pub none_table : call_table fresh_table dropped Packet 1 (0x05 ∷ []) room ≡ fresh_table
  pub none_byte : get_or (call_out fresh_table dropped Packet 1 (0x05 ∷ []) room) 8 0 ≡ 0x02
  pub none_id : id_of (take 11 (call_out fresh_table dropped Packet 1 (0x05 ∷ []) room)) ≡ 1
  -- 03 and the alert for a bad checksum
  pub checksum_byte : get_or (call_out alerted goal_registered BadChecksum 1 [] room) 8 0 ≡ 0x83
  pub checksum_formed : WellFormed (take 11 (call_out alerted goal_registered BadChecksum 1 [] room))
  pub checksum_id : id_of (take 11 (call_out alerted goal_registered BadChecksum 1 [] room)) ≡ 1
  -- the longest status
  pub long_byte : get_or (call_out marked longest Packet 254 sync_limits room) 8 0 ≡ 0x80
  pub long_formed : WellFormed (take 21 (call_out marked longest Packet 254 sync_limits room))
  pub long_id : id_of (take 21 (call_out marked longest Packet 254 sync_limits room)) ≡ 252
  pub few : 21 ≤ 21
  -- a Ping to all devices, heard by 252
  pub slot : 252 ≤ 252
  pub first_slot : (carried_reply (put fresh_table device_id 252) longest Packet 254 (0x01 ∷ [])).slot ≤ 252
  pub checksum_slot : 0 ≤ 252
  pub first_checksum_slot : (carried_reply alerted goal_registered BadChecksum 1 []).slot ≤ 252
  -- the Ping with nothing registered
  pub none_slot : 252 ≤ 252
  pub none_first_slot : (carried_reply (put fresh_table device_id 252) dropped Packet 254 (0x01 ∷ [])).slot ≤ 252
  -- an Action that is not refused has found the limits as they were; under others it is refused 06
  pub same_min : pos 0 ≡ value_of min_position registered_table
  pub same_max : pos 4095 ≡ value_of max_position registered_table
  pub same_min_to_all : pos 100 ≡ value_of min_position limited
  pub same_max_to_all : pos 4000 ≡ value_of max_position limited
  pub limits_number : error_number other_limits goal_registered Packet 1 (0x05 ∷ []) ≡ 0x06
  pub limits_table : call_table other_limits goal_registered Packet 1 (0x05 ∷ []) room ≡ put fresh_table max_position 4000
  pub limits_registered_lem : call_registered other_limits goal_registered Packet 1 (0x05 ∷ []) room ≡ dropped
  pub limits_number_to_all : error_number other_limits longest Packet 254 (0x05 ∷ []) ≡ 0x06
  pub limits_table_to_all : call_table other_limits longest Packet 254 (0x05 ∷ []) room ≡ put fresh_table max_position 4000
  pub limits_registered_to_all : call_registered other_limits longest Packet 254 (0x05 ∷ []) room ≡ dropped

abbrev pub DevicePromisesApplied : Type 0
DevicePromisesApplied = DevicePromises → DeviceApplied

-- ---- the call in two

-- the status with 03 and the alert, and that of the Sync Read
abbrev pub checksum_status : List ℕ
checksum_status = 0xFF ∷ 0xFF ∷ 0xFD ∷ 0x00 ∷ 0x01 ∷ 0x04 ∷ 0x00 ∷ 0x55 ∷ 0x83 ∷ 0xA8 ∷ 0x8F ∷ []

abbrev pub long_status : List ℕ
long_status =
    0xFF ∷ 0xFF ∷ 0xFD ∷ 0x00 ∷ 0xFC ∷ 0x0E ∷ 0x00
    ∷ 0x55 ∷ 0x80 ∷ 0xFF ∷ 0xFF ∷ 0xFD ∷ 0xFD ∷ 0x00 ∷ 0xFF ∷ 0xFF ∷ 0xFD ∷ 0xFD ∷ 0x00
    ∷ 0x99 ∷ 0xA7 ∷ []

pub record InTwo : Type 0 where
  -- a Ping, and an Action that stores the goal position
  pub ping_answer : answer_of_both (state_refusal fresh_table longest) (carried_reply fresh_table longest Packet 1 (0x01 ∷ [])) room ≡ replied 14 0
  pub ping_reply : take 14 (out_of_both (state_refusal fresh_table longest) (carried_reply fresh_table longest Packet 1 (0x01 ∷ [])) room) ≡ ping_status
  pub action_table : carried_table registered_table goal_registered Packet 1 (0x05 ∷ []) ≡ goal_at_512
  pub action_registered : carried_registered registered_table goal_registered Packet 1 (0x05 ∷ []) ≡ dropped
  -- a Ping with nothing registered
  pub none_ping_answer : answer_of_both (state_refusal fresh_table dropped) (carried_reply fresh_table dropped Packet 1 (0x01 ∷ [])) room ≡ replied 14 0
  pub none_ping_reply : take 14 (out_of_both (state_refusal fresh_table dropped) (carried_reply fresh_table dropped Packet 1 (0x01 ∷ [])) room) ≡ ping_status
  -- a bad checksum
  pub checksum_answer : answer_of_both (state_refusal alerted longest) (carried_reply alerted longest BadChecksum 1 []) room ≡ replied 11 0
  pub checksum_table : carried_table alerted longest BadChecksum 1 [] ≡ alerted
  pub checksum_registered : carried_registered alerted longest BadChecksum 1 [] ≡ longest
  pub checksum_reply : take 11 (out_of_both (state_refusal alerted longest) (carried_reply alerted longest BadChecksum 1 []) room) ≡ checksum_status
  -- the longest status
  pub long_answer : answer_of_both (state_refusal marked longest) (carried_reply marked longest Packet 254 sync_limits) room ≡ replied 21 2
  pub long_reply : take 21 (out_of_both (state_refusal marked longest) (carried_reply marked longest Packet 254 sync_limits) room) ≡ long_status
  -- 23, which comes before 24
  pub stopped_answer : answer_of_both (state_refusal fresh_table too_many) (carried_reply fresh_table too_many Packet 1 (0x01 ∷ [])) short ≡ Err BadRegistered
  pub stopped_table : carried_table fresh_table too_many Packet 1 (0x01 ∷ []) ≡ fresh_table
  pub stopped_registered : carried_registered fresh_table too_many Packet 1 (0x01 ∷ []) ≡ too_many
  pub stopped_reply : out_of_both (state_refusal fresh_table too_many) (carried_reply fresh_table too_many Packet 1 (0x01 ∷ [])) short ≡ short

abbrev pub SplitApplied : Type 0
SplitApplied = Split → InTwo

-- ---- the calls on a packet as received

-- a body buffer that just suffices for the Write of 512 to the goal position, and one that does not
abbrev pub seven_bytes : List ℕ
seven_bytes = replicate 7 0xAA

abbrev pub six_bytes : List ℕ
six_bytes = replicate 6 0xAA

abbrev pub write_body : List ℕ
write_body = 0x03 ∷ 0x74 ∷ 0x00 ∷ 0x00 ∷ 0x02 ∷ 0x00 ∷ 0x00 ∷ []

-- Write of FF FF FD 00 at 116: 8 bytes of body with the stuffing, 7 without
abbrev pub write_marked : List ℕ
write_marked =
    0xFF ∷ 0xFF ∷ 0xFD ∷ 0x00 ∷ 0x01 ∷ 0x0A ∷ 0x00 ∷ 0x03 ∷ 0x74 ∷ 0x00 ∷ 0xFF ∷ 0xFF ∷ 0xFD ∷ 0xFD ∷ 0x00 ∷ 0x21 ∷ 0xE7 ∷ []

-- no packets, though their checksums are right: a body that ends FF FF FD, and the ID 253
abbrev pub badly_stuffed : List ℕ
badly_stuffed = 0xFF ∷ 0xFF ∷ 0xFD ∷ 0x00 ∷ 0x01 ∷ 0x06 ∷ 0x00 ∷ 0x03 ∷ 0xFF ∷ 0xFF ∷ 0xFD ∷ 0xD3 ∷ 0x6F ∷ []

abbrev pub to253 : List ℕ
to253 = 0xFF ∷ 0xFF ∷ 0xFD ∷ 0x00 ∷ 0xFD ∷ 0x03 ∷ 0x00 ∷ 0x01 ∷ 0x31 ∷ 0x7E ∷ []

-- the longest packet, to all devices: a body of 1,022 bytes
abbrev pub longest_packet : List ℕ
longest_packet = (0xFF ∷ 0xFF ∷ 0xFD ∷ 0x00 ∷ 0xFE ∷ 0x00 ∷ 0x04 ∷ 0x10 ∷ []) ++ (replicate 1021 0 ++ 0xEB ∷ 0x22 ∷ [])

pub record ExchangeApplied : Type 0 where
  pub its_id : (heard_of write_goal).id ≡ 1
  pub to_all : (heard_of ping_to_all).id ≡ 254
  -- in one
  pub answer : exchange_answer fresh_table longest write_goal seven_bytes room ≡ replied 11 0
  pub new_table : exchange_table fresh_table longest write_goal seven_bytes room ≡ goal_at_512
  pub registered : exchange_registered fresh_table longest write_goal seven_bytes room ≡ longest
  pub reply : take 11 (exchange_out fresh_table longest write_goal seven_bytes room) ≡ write_status
  pub new_body : exchange_body fresh_table longest write_goal seven_bytes room ≡ write_body
  -- the first of two
  pub first_answer : packet_answer fresh_table longest write_goal seven_bytes ≡ replied 0 0
  pub first_reply : packet_reply fresh_table longest write_goal seven_bytes ≡ status 1 0 [] 0
  pub first_table : packet_table fresh_table longest write_goal seven_bytes ≡ goal_at_512
  pub first_registered : packet_registered fresh_table longest write_goal seven_bytes ≡ longest
  pub first_body : packet_body fresh_table longest write_goal seven_bytes ≡ write_body
  -- the buffer has room for the body without its stuffing: 04 is answered
  pub marked_answer : exchange_answer fresh_table longest write_marked seven_bytes room ≡ replied 11 0
  pub marked_reply : take 11 (exchange_out fresh_table longest write_marked seven_bytes room) ≡ range_status
  pub marked_body : exchange_body fresh_table longest write_marked seven_bytes room ≡ 0x03 ∷ 0x74 ∷ 0x00 ∷ 0xFF ∷ 0xFF ∷ 0xFD ∷ 0x00 ∷ []
  -- so with nothing registered
  pub none_marked_answer : exchange_answer fresh_table dropped write_marked seven_bytes room ≡ replied 11 0
  pub none_marked_reply : take 11 (exchange_out fresh_table dropped write_marked seven_bytes room) ≡ range_status
  pub none_marked_body : exchange_body fresh_table dropped write_marked seven_bytes room ≡ 0x03 ∷ 0x74 ∷ 0x00 ∷ 0xFF ∷ 0xFF ∷ 0xFD ∷ 0x00 ∷ []
  -- the device's call is refused, 23: the body is not in its buffer
  pub many_answer : exchange_answer fresh_table too_many write_goal seven_bytes short ≡ Err BadRegistered
  pub many_table : exchange_table fresh_table too_many write_goal seven_bytes short ≡ fresh_table
  pub many_body : exchange_body fresh_table too_many write_goal seven_bytes short ≡ seven_bytes
  pub many_first_answer : packet_answer fresh_table too_many write_goal seven_bytes ≡ Err BadRegistered
  pub many_first_reply : packet_reply fresh_table too_many write_goal seven_bytes ≡ silence
  pub many_first_body : packet_body fresh_table too_many write_goal seven_bytes ≡ seven_bytes
  -- no room for the body: 13, and nothing changes
  pub stopped : exchange_answer fresh_table longest write_goal six_bytes room ≡ Err NoRoom
  pub stopped_table : exchange_table fresh_table longest write_goal six_bytes room ≡ fresh_table
  pub stopped_registered : exchange_registered fresh_table longest write_goal six_bytes room ≡ longest
  pub stopped_reply : exchange_out fresh_table longest write_goal six_bytes room ≡ room
  pub stopped_body : exchange_body fresh_table longest write_goal six_bytes room ≡ six_bytes
  pub stopped_first : packet_answer fresh_table longest write_goal six_bytes ≡ Err NoRoom
  pub stopped_first_reply : packet_reply fresh_table longest write_goal six_bytes ≡ silence
  pub stopped_first_table : packet_table fresh_table longest write_goal six_bytes ≡ fresh_table
  pub stopped_first_registered : packet_registered fresh_table longest write_goal six_bytes ≡ longest
  pub stopped_first_body : packet_body fresh_table longest write_goal six_bytes ≡ six_bytes
  -- so with nothing registered
  pub none_stopped : exchange_answer fresh_table dropped write_goal six_bytes room ≡ Err NoRoom
  pub none_stopped_table : exchange_table fresh_table dropped write_goal six_bytes room ≡ fresh_table
  pub none_stopped_registered : exchange_registered fresh_table dropped write_goal six_bytes room ≡ dropped
  pub none_stopped_reply : exchange_out fresh_table dropped write_goal six_bytes room ≡ room
  pub none_stopped_body : exchange_body fresh_table dropped write_goal six_bytes room ≡ six_bytes
  pub none_stopped_first : packet_answer fresh_table dropped write_goal six_bytes ≡ Err NoRoom
  pub none_stopped_first_reply : packet_reply fresh_table dropped write_goal six_bytes ≡ silence
  pub none_stopped_first_table : packet_table fresh_table dropped write_goal six_bytes ≡ fresh_table
  pub none_stopped_first_registered : packet_registered fresh_table dropped write_goal six_bytes ≡ dropped
  pub none_stopped_first_body : packet_body fresh_table dropped write_goal six_bytes ≡ six_bytes
  -- bad stuffing: 14, before 23 and 24
  pub bad_answer : exchange_answer fresh_table too_many badly_stuffed body_room short ≡ Err BadStuffing
  pub bad_table : exchange_table fresh_table too_many badly_stuffed body_room short ≡ fresh_table
  pub bad_registered : exchange_registered fresh_table too_many badly_stuffed body_room short ≡ too_many
  pub bad_reply : exchange_out fresh_table too_many badly_stuffed body_room short ≡ short
  pub bad_body : exchange_body fresh_table too_many badly_stuffed body_room short ≡ body_room
  pub bad_first_answer : packet_answer fresh_table too_many badly_stuffed body_room ≡ Err BadStuffing
  pub bad_first_reply : packet_reply fresh_table too_many badly_stuffed body_room ≡ silence
  pub bad_first_table : packet_table fresh_table too_many badly_stuffed body_room ≡ fresh_table
  pub bad_first_registered : packet_registered fresh_table too_many badly_stuffed body_room ≡ too_many
  pub bad_first_body : packet_body fresh_table too_many badly_stuffed body_room ≡ body_room
  -- no packet, and so the same by the rule that only packets are carried out
  pub bad_unheard : exchange_answer fresh_table too_many badly_stuffed body_room short ≡ Err BadStuffing
  pub bad_unheard_table : exchange_table fresh_table too_many badly_stuffed body_room short ≡ fresh_table
  -- a packet with a wrong checksum is not carried out
  pub unheard : exchange_answer fresh_table longest ping_wrong_checksum body_room room ≡ replied 0 0
  pub unheard_table : exchange_table fresh_table longest ping_wrong_checksum body_room room ≡ fresh_table
  pub unheard_registered : exchange_registered fresh_table longest ping_wrong_checksum body_room room ≡ longest
  pub unheard_reply : exchange_out fresh_table longest ping_wrong_checksum body_room room ≡ room
  pub unheard_first_table : packet_table fresh_table longest ping_wrong_checksum body_room ≡ fresh_table
  pub unheard_first_registered : packet_registered fresh_table longest ping_wrong_checksum body_room ≡ longest
  pub unheard_first_reply : packet_reply fresh_table longest ping_wrong_checksum body_room ≡ silence
  -- nor one to 253 with a right one
  pub nobody : exchange_answer fresh_table longest to253 body_room room ≡ replied 0 0
  pub nobody_table : exchange_table fresh_table longest to253 body_room room ≡ fresh_table
  pub nobody_registered : exchange_registered fresh_table longest to253 body_room room ≡ longest
  pub nobody_reply : exchange_out fresh_table longest to253 body_room room ≡ room
  pub nobody_first_table : packet_table fresh_table longest to253 body_room ≡ fresh_table
  pub nobody_first_registered : packet_registered fresh_table longest to253 body_room ≡ longest
  pub nobody_first_reply : packet_reply fresh_table longest to253 body_room ≡ silence
  -- so with nothing registered
  pub none_nobody : exchange_answer fresh_table dropped to253 body_room room ≡ replied 0 0
  pub none_nobody_table : exchange_table fresh_table dropped to253 body_room room ≡ fresh_table
  pub none_nobody_registered : exchange_registered fresh_table dropped to253 body_room room ≡ dropped
  pub none_nobody_reply : exchange_out fresh_table dropped to253 body_room room ≡ room
  pub none_nobody_first_table : packet_table fresh_table dropped to253 body_room ≡ fresh_table
  pub none_nobody_first_registered : packet_registered fresh_table dropped to253 body_room ≡ dropped
  pub none_nobody_first_reply : packet_reply fresh_table dropped to253 body_room ≡ silence
  -- buffers of 1,022 and 32 bytes: no refusal
  pub accepted : exchange_refusal fresh_table longest write_goal (replicate 1022 0xAA) room ≡ None
  pub first_accepted : packet_refusal fresh_table longest write_goal (replicate 1022 0xAA) ≡ None
  pub long_accepted : exchange_refusal marked longest longest_packet (replicate 1022 0xAA) room ≡ None
  pub first_long_accepted : packet_refusal marked longest longest_packet (replicate 1022 0xAA) ≡ None
  -- so with nothing registered
  pub none_accepted : exchange_refusal fresh_table dropped write_goal (replicate 1022 0xAA) room ≡ None
  pub none_first_accepted : packet_refusal fresh_table dropped write_goal (replicate 1022 0xAA) ≡ None

abbrev pub ExchangePromisesApplied : Type 0
ExchangePromisesApplied = ExchangePromises → ExchangeApplied
