-- The worked examples that are proved: those of RULES X that are marked so, but for the salvage's, and others.
use Rattle.std.specs.Prelude.{Err, Result}
use Rattle.std.specs.Prelude.{None}
use Rattle.std.specs.Prelude.{◌≡◌, true, ℕ, ◌-◌, ℤ, length, take, drop, replicate}
use mathlib.Core.List.{List, [], ◌∷◌, ◌++◌, Memᴰ}
use Rattle.answers.specs.declared.Refusal.TheVariants.{NoRoom}
use Rattle.reading.specs.Rules.{is_packet, is_nothing}
use Rattle.reading.specs.Promise.{joined, NoneAcross}
use Rattle.stuffing.specs.Stuffing.{stuff, well_stuffed, unstuff}
use Rattle.packet.specs.Packet.{WellFormed}
use Rattle.packet.specs.Verdict.{verdict, protocol2}
use Rattle.packet_encoder.specs.Writing.{packet_of}
use Rattle.packet_v1.specs.Verdict.{protocol1, mercury}
use Rattle.packet_encoder_v1.specs.Writing.{packet_of as packetV1Of}
use Rattle.log_layout.specs.Log.{laid, log_of}
use Rattle.table_registers.specs.Registers.{baud_code, max_position, min_position, torque_enable, lamp, goal_position}
use Rattle.table_items.specs.Items.{put}
use Rattle.table_access.specs.Fresh.{fresh_table}
use Rattle.device_instructions.specs.Registered.{dropped}
use Rattle.device_dispatch.specs.declared.Heard.TheVariants.{Packet, BadChecksum}
use Rattle.device.specs.Answers.{replied, call_answer, call_table, call_registered, call_out}
use Rattle.device.specs.Demand1.{error_number}
use Rattle.device_packet.specs.Exchange.{heard_of}
use Rattle.plan.specs.Goals.{goals_refusal}
use Rattle.plan.specs.Planner.{plan_of}
use Rattle.plan.specs.Samples.{two_goals, plan_of_two}
use Rattle.cases.specs.Exchanges.{Lent, answer_to, left_after, lending, left, at166, goal_at_512, registered_table, goal_too_large, goal_registered, lamp_registered, marked_limits}
use Rattle.cases.specs.Exchanges.{worked, locked, alerted, level}
use Rattle.cases.specs.Exchanges.{ping_wrong_checksum, ping_with_parameter, length_status, action_to_1, action_to_all, range_status, raise_min, limit_status, register_goal, lower_max, sync_read_position, bulk_read_goal, zero_status, bulk_write_goal, device9, read_limits, longest_status}
use Rattle.device.specs.declared.Sent.{Sent}
use Rattle.answers.specs.declared.Refusal.{Refusal}

pub data Case : Type 0 where
  -- the packet with an ID and a body, and its bytes
  packet : ℕ → List ℕ → List ℕ → Case
  -- a body, and its stuffed form
  stuffing : List ℕ → List ℕ → Case
  -- a packet as received, and what is lent to the call on it: its answer, and what it leaves
  exchange : List ℕ → Lent → Result Sent Refusal → Lent → Case
  -- a packet as received, and what is lent: the error number by which demand 1 calls it refused, answered or not
  refusal : List ℕ → Lent → ℕ → Case
  -- an ID, a table, and the status that the device call writes where a packet with a bad checksum was heard: nothing changes
  bad_checksum : ℕ → List ℕ → List ℕ → Case
  -- segments, the numbers before them in their log, and its count of bytes
  log : List (List ℕ) → List ℕ → ℕ → Case
  -- wanted goals that are not refused, and our planner's plan of them
  plan : List ℤ → List ℕ → Case
  -- noise, and the bytes beyond it: no packet reaches across the noise's end, as demand 3 supposes
  apart : List ℕ → List ℕ → Case
  -- one does
  across : List ℕ → List ℕ → Case
  -- the packet of Protocol 1.0, and of Mercury, with an ID and a body, and its bytes
  packet_v1 : ℕ → List ℕ → List ℕ → Case
  -- a packet of Protocol 1.0 whose ID Mercury does not allow
  only_p1 : List ℕ → Case

-- what each case says
abbrev pub Claim : Case → Type 0
Claim (packet id body bytes) = (packet_of id body ≡ bytes) × (verdict bytes ≡ is_packet (length bytes)) × WellFormed bytes
Claim (stuffing body stuffed) = (stuff body ≡ stuffed) × (well_stuffed stuffed ≡ true) × (unstuff stuffed ≡ body)
Claim (exchange bytes before answer after) = (answer_to bytes before ≡ answer) × (left_after bytes before ≡ after)
Claim (refusal bytes before number) =
    error_number before.table before.registered Packet (heard_of bytes).id (heard_of bytes).body ≡ number
Claim (bad_checksum id table status) =
    (call_answer table goal_registered BadChecksum id [] (replicate 32 0xAA) ≡ replied (length status) 0)
    × (call_table table goal_registered BadChecksum id [] (replicate 32 0xAA) ≡ table)
    × (call_registered table goal_registered BadChecksum id [] (replicate 32 0xAA) ≡ goal_registered)
    × (call_out table goal_registered BadChecksum id [] (replicate 32 0xAA) ≡ status ++ replicate (32 - length status) 0xAA)
Claim (log segments numbers n) = (log_of segments ≡ laid numbers (joined segments)) × (length (log_of segments) ≡ n)
Claim (plan goals bytes) = (goals_refusal goals ≡ None) × (plan_of goals ≡ bytes)
Claim (apart noise beyond) = NoneAcross protocol2 noise beyond
Claim (across noise beyond) = ¬ NoneAcross protocol2 noise beyond
Claim (packet_v1 id body bytes) =
    (packetV1Of id body ≡ bytes) × (protocol1.verdict bytes ≡ is_packet (length bytes)) × (mercury.verdict bytes ≡ is_packet (length bytes))
Claim (only_p1 bytes) = (protocol1.verdict bytes ≡ is_packet (length bytes)) × (mercury.verdict bytes ≡ is_nothing)

-- ---- the packets

-- Ping to 1, and its reply; Ping to all
abbrev pub ping_to_1 : List ℕ
ping_to_1 = 0xFF ∷ 0xFF ∷ 0xFD ∷ 0x00 ∷ 0x01 ∷ 0x03 ∷ 0x00 ∷ 0x01 ∷ 0x19 ∷ 0x4E ∷ []

abbrev pub ping_status : List ℕ
ping_status = 0xFF ∷ 0xFF ∷ 0xFD ∷ 0x00 ∷ 0x01 ∷ 0x07 ∷ 0x00 ∷ 0x55 ∷ 0x00 ∷ 0x06 ∷ 0x04 ∷ 0x26 ∷ 0x65 ∷ 0x5D ∷ []

abbrev pub ping_to_all : List ℕ
ping_to_all = 0xFF ∷ 0xFF ∷ 0xFD ∷ 0x00 ∷ 0xFE ∷ 0x03 ∷ 0x00 ∷ 0x01 ∷ 0x31 ∷ 0x42 ∷ []

-- Read of four bytes at 132, and the reply with 166
abbrev pub read_position : List ℕ
read_position = 0xFF ∷ 0xFF ∷ 0xFD ∷ 0x00 ∷ 0x01 ∷ 0x07 ∷ 0x00 ∷ 0x02 ∷ 0x84 ∷ 0x00 ∷ 0x04 ∷ 0x00 ∷ 0x1D ∷ 0x15 ∷ []

abbrev pub read_status : List ℕ
read_status = 0xFF ∷ 0xFF ∷ 0xFD ∷ 0x00 ∷ 0x01 ∷ 0x08 ∷ 0x00 ∷ 0x55 ∷ 0x00 ∷ 0xA6 ∷ 0x00 ∷ 0x00 ∷ 0x00 ∷ 0x8C ∷ 0xC0 ∷ []

-- Write of 512 at 116, and its reply
abbrev pub write_goal : List ℕ
write_goal =
    0xFF ∷ 0xFF ∷ 0xFD ∷ 0x00 ∷ 0x01 ∷ 0x09 ∷ 0x00 ∷ 0x03 ∷ 0x74 ∷ 0x00 ∷ 0x00 ∷ 0x02 ∷ 0x00 ∷ 0x00 ∷ 0xCA ∷ 0x89 ∷ []

abbrev pub write_status : List ℕ
write_status = 0xFF ∷ 0xFF ∷ 0xFD ∷ 0x00 ∷ 0x01 ∷ 0x04 ∷ 0x00 ∷ 0x55 ∷ 0x00 ∷ 0xA1 ∷ 0x0C ∷ []

-- a Read with one parameter but for its last byte, which is FF: the first byte of whatever packet follows makes it whole
abbrev pub lacks_ff : List ℕ
lacks_ff = 0xFF ∷ 0xFF ∷ 0xFD ∷ 0x00 ∷ 0x01 ∷ 0x04 ∷ 0x00 ∷ 0x02 ∷ 0x41 ∷ 0x21 ∷ []

-- Ping to 1 with its last body byte changed by 0F and the low byte of its checksum by 22: the checksum is right again
abbrev pub spoiled_ping : List ℕ
spoiled_ping = 0xFF ∷ 0xFF ∷ 0xFD ∷ 0x00 ∷ 0x01 ∷ 0x03 ∷ 0x00 ∷ 0x0E ∷ 0x3B ∷ 0x4E ∷ []

-- in Protocol 1.0: Read of one byte at 43 from device 1; Ping to 253, whose sum passes 255 [O12]
abbrev pub read_temperature : List ℕ
read_temperature = 0xFF ∷ 0xFF ∷ 0x01 ∷ 0x04 ∷ 0x02 ∷ 0x2B ∷ 0x01 ∷ 0xCC ∷ []

abbrev pub ping_to_253 : List ℕ
ping_to_253 = 0xFF ∷ 0xFF ∷ 0xFD ∷ 0x02 ∷ 0x01 ∷ 0xFF ∷ []

-- ---- the cases

-- the packet with an ID and a body, heard by a device with this table: the table and the status (none: silence) that it leaves
abbrev pub heard : ℕ → List ℕ → List ℕ → List ℕ → List ℕ → Case
heard id body table new status =
    exchange (packet_of id body) (lending table goal_registered (length body)) (replied (length status) 0)
    (left new goal_registered (length body) body status)

-- the same where the registered write is dropped by it
abbrev pub drops : ℕ → List ℕ → List ℕ → List ℕ → List ℕ → Case
drops id body table new status =
    exchange (packet_of id body) (lending table goal_registered (length body)) (replied (length status) 0)
    (left new dropped (length body) body status)

-- the status of a device with this error byte
abbrev pub status : ℕ → ℕ → List ℕ
status id error = packet_of id (0x55 ∷ error ∷ [])

abbrev pub table : List Case
table =
    packet 1 (0x01 ∷ []) ping_to_1
    ∷ packet 1 (0x55 ∷ 0x00 ∷ 0x06 ∷ 0x04 ∷ 0x26 ∷ []) ping_status
    ∷ packet 254 (0x01 ∷ []) ping_to_all
    ∷ packet 1 (0x02 ∷ 0x84 ∷ 0x00 ∷ 0x04 ∷ 0x00 ∷ []) read_position
    ∷ packet 1 (0x55 ∷ 0x00 ∷ 0xA6 ∷ 0x00 ∷ 0x00 ∷ 0x00 ∷ []) read_status
    ∷ packet 1 (0x03 ∷ 0x74 ∷ 0x00 ∷ 0x00 ∷ 0x02 ∷ 0x00 ∷ 0x00 ∷ []) write_goal
    ∷ packet 1 (0x55 ∷ 0x00 ∷ []) write_status
    ∷ packet 1 (0x0E ∷ []) spoiled_ping
    -- bodies that end FF FF FD, FF FF FD FD and FF FF
    ∷ stuffing (0x03 ∷ 0xFF ∷ 0xFF ∷ 0xFD ∷ []) (0x03 ∷ 0xFF ∷ 0xFF ∷ 0xFD ∷ 0xFD ∷ [])
    ∷ stuffing (0x03 ∷ 0xFF ∷ 0xFF ∷ 0xFD ∷ 0xFD ∷ []) (0x03 ∷ 0xFF ∷ 0xFF ∷ 0xFD ∷ 0xFD ∷ 0xFD ∷ [])
    ∷ stuffing (0x03 ∷ 0xFF ∷ 0xFF ∷ []) (0x03 ∷ 0xFF ∷ 0xFF ∷ [])
    -- what a fresh device does with these packets
    ∷ exchange ping_to_1 (lending fresh_table dropped 2) (replied 14 0) (left fresh_table dropped 2 (0x01 ∷ []) ping_status)
    ∷ exchange ping_to_all (lending fresh_table dropped 1) (replied 14 1) (left fresh_table dropped 1 (0x01 ∷ []) ping_status)
    ∷ exchange read_position (lending at166 dropped 5) (replied 15 0) (left at166 dropped 5 (0x02 ∷ 0x84 ∷ 0x00 ∷ 0x04 ∷ 0x00 ∷ []) read_status)
    ∷ exchange write_goal (lending fresh_table dropped 8) (replied 11 0)
    (left (put fresh_table goal_position 512) dropped 8 (0x03 ∷ 0x74 ∷ 0x00 ∷ 0x00 ∷ 0x02 ∷ 0x00 ∷ 0x00 ∷ []) write_status)
    -- min position is not raised above the goal position that is stored, and up to it it is
    ∷ exchange raise_min (lending fresh_table dropped 7) (replied 11 0)
    (left fresh_table dropped 7 (0x03 ∷ 0x34 ∷ 0x00 ∷ 0x00 ∷ 0x02 ∷ 0x00 ∷ 0x00 ∷ []) limit_status)
    ∷ exchange raise_min (lending goal_at_512 dropped 7) (replied 11 0)
    (left (put goal_at_512 min_position 512) dropped 7 (0x03 ∷ 0x34 ∷ 0x00 ∷ 0x00 ∷ 0x02 ∷ 0x00 ∷ 0x00 ∷ []) write_status)
    -- a goal position is registered, max position is lowered, Action follows: refused, and all that was registered is 0
    ∷ exchange register_goal (lending fresh_table dropped 7) (replied 11 0)
    (left registered_table goal_registered 7 (take 7 (drop 7 register_goal)) write_status)
    ∷ exchange lower_max (lending registered_table goal_registered 7) (replied 11 0)
    (left (put registered_table max_position 4000) goal_registered 7 (take 7 (drop 7 lower_max)) write_status)
    ∷ exchange action_to_1 (lending (put registered_table max_position 4000) goal_registered 1) (replied 11 0)
    (left (put fresh_table max_position 4000) dropped 1 (0x05 ∷ []) limit_status)
    -- and without that it is carried out
    ∷ exchange action_to_1 (lending registered_table goal_registered 1) (replied 11 0) (left goal_at_512 dropped 1 (0x05 ∷ []) write_status)
    -- with another min position it is refused too; a Reg Write in the place of an older one has the limits of now; one that the limits
    -- do not admit is not registered
    ∷ drops 1 (0x05 ∷ []) (put registered_table min_position 100) (put fresh_table min_position 100) limit_status
    ∷ exchange register_goal (lending registered_table lamp_registered 7) (replied 11 0)
    (left registered_table goal_registered 7 (take 7 (drop 7 register_goal)) write_status)
    ∷ heard 1 (take 7 (drop 7 register_goal)) (put fresh_table max_position 511) (put fresh_table max_position 511) limit_status
    -- the third of a Sync Read's list; the longest status
    ∷ exchange sync_read_position (lending at166 dropped 8) (replied 15 2)
    (left at166 dropped 8 (0x82 ∷ 0x84 ∷ 0x00 ∷ 0x04 ∷ 0x00 ∷ 0x03 ∷ 0x02 ∷ 0x01 ∷ []) read_status)
    ∷ exchange read_limits (lending marked_limits dropped 5) (replied 21 0)
    (left marked_limits dropped 5 (0x02 ∷ 0x30 ∷ 0x00 ∷ 0x08 ∷ 0x00 ∷ []) longest_status)
    -- the second of a Bulk Read's list, whose own address is read; the first of a Bulk Write's, in silence
    ∷ exchange bulk_read_goal (lending at166 dropped 11) (replied 15 1)
    (left at166 dropped 11 (take 11 (drop 7 bulk_read_goal)) zero_status)
    ∷ exchange bulk_write_goal (lending fresh_table dropped 16) (replied 0 0)
    (left (put fresh_table goal_position 512) dropped 16 (take 16 (drop 7 bulk_write_goal)) [])
    -- a wrong checksum, and a byte beyond the packet: silence
    ∷ exchange ping_wrong_checksum (lending fresh_table dropped 1) (replied 0 0) (left fresh_table dropped 1 (0x01 ∷ []) [])
    ∷ exchange (ping_to_1 ++ 0x00 ∷ []) (lending fresh_table dropped 3) (replied 0 0) (left fresh_table dropped 3 (0x01 ∷ 0x19 ∷ []) [])
    -- a refused Action drops the registered write, also where it is not answered; a refused Ping keeps it
    ∷ exchange action_to_1 (lending registered_table goal_too_large 1) (replied 11 0) (left fresh_table dropped 1 (0x05 ∷ []) range_status)
    ∷ exchange action_to_all (lending registered_table goal_too_large 1) (replied 0 0) (left fresh_table dropped 1 (0x05 ∷ []) [])
    ∷ exchange ping_with_parameter (lending registered_table goal_too_large 2) (replied 11 0)
    (left registered_table goal_too_large 2 (0x01 ∷ 0x00 ∷ []) length_status)
    ∷ refusal action_to_1 (lending registered_table goal_too_large 1) 0x04
    ∷ refusal action_to_all (lending registered_table goal_too_large 1) 0x04
    ∷ refusal ping_with_parameter (lending registered_table goal_too_large 2) 0x05
    -- Factory Reset FF, where min position is 100 too: the goal position becomes the fresh one; 01, 02 and another option; FF to all
    -- devices; Reboot under torque
    ∷ drops 9 (0x06 ∷ 0xFF ∷ []) worked fresh_table (status 9 0x00)
    ∷ drops 9 (0x06 ∷ 0xFF ∷ []) (put worked min_position 100) fresh_table (status 9 0x00)
    ∷ drops 9 (0x06 ∷ 0x01 ∷ []) worked device9 (status 9 0x00)
    ∷ drops 9 (0x06 ∷ 0x02 ∷ []) worked (put device9 baud_code 3) (status 9 0x00)
    ∷ heard 9 (0x06 ∷ 0x03 ∷ []) worked worked (status 9 0x84)
    ∷ heard 254 (0x06 ∷ 0xFF ∷ []) worked worked []
    ∷ drops 1 (0x08 ∷ []) (put (put (put at166 min_position 100) torque_enable 1) goal_position 512) (put (put at166 min_position 100) goal_position 100) (status 1 0x00)
    -- a write to ROM under torque; a Write with the alert; Write at levels 0 and 1, Read at 0; Read to all devices
    ∷ heard 1 (0x03 ∷ 48 ∷ 0 ∷ 0xA0 ∷ 0x0F ∷ 0 ∷ 0 ∷ []) locked locked (status 1 0x07)
    ∷ heard 1 (0x03 ∷ 65 ∷ 0 ∷ 1 ∷ []) alerted (put alerted lamp 1) (status 1 0x80)
    ∷ heard 1 (0x03 ∷ 65 ∷ 0 ∷ 1 ∷ []) (level 0) (put (level 0) lamp 1) []
    ∷ heard 1 (0x03 ∷ 65 ∷ 0 ∷ 1 ∷ []) (level 1) (put (level 1) lamp 1) []
    ∷ heard 1 (0x02 ∷ 132 ∷ 0 ∷ 4 ∷ 0 ∷ []) (level 0) (level 0) []
    ∷ heard 254 (0x02 ∷ 132 ∷ 0 ∷ 4 ∷ 0 ∷ []) fresh_table fresh_table []
    -- void lists behind the own entry, of Sync Write and Bulk Write: an ID twice, one above 252, a cut entry
    ∷ heard 254 (0x83 ∷ 65 ∷ 0 ∷ 1 ∷ 0 ∷ 1 ∷ 1 ∷ 2 ∷ 0 ∷ 2 ∷ 1 ∷ []) fresh_table fresh_table []
    ∷ heard 254 (0x83 ∷ 65 ∷ 0 ∷ 1 ∷ 0 ∷ 1 ∷ 1 ∷ 253 ∷ 0 ∷ []) fresh_table fresh_table []
    ∷ heard 254 (0x83 ∷ 65 ∷ 0 ∷ 1 ∷ 0 ∷ 1 ∷ 1 ∷ 2 ∷ []) fresh_table fresh_table []
    ∷ heard 254 (0x83 ∷ 65 ∷ 0 ∷ 1 ∷ 0 ∷ 1 ∷ 1 ∷ 2 ∷ 0 ∷ []) fresh_table (put fresh_table lamp 1) []
    ∷ heard 254 (0x93 ∷ 1 ∷ 65 ∷ 0 ∷ 1 ∷ 0 ∷ 1 ∷ 2 ∷ 65 ∷ 0 ∷ 1 ∷ 0 ∷ 0 ∷ 2 ∷ 65 ∷ 0 ∷ 1 ∷ 0 ∷ 0 ∷ []) fresh_table fresh_table []
    ∷ heard 254 (0x93 ∷ 1 ∷ 65 ∷ 0 ∷ 1 ∷ 0 ∷ 1 ∷ 253 ∷ 65 ∷ 0 ∷ 1 ∷ 0 ∷ 0 ∷ []) fresh_table fresh_table []
    ∷ heard 254 (0x93 ∷ 1 ∷ 65 ∷ 0 ∷ 1 ∷ 0 ∷ 1 ∷ 2 ∷ 65 ∷ 0 ∷ 1 ∷ 0 ∷ []) fresh_table fresh_table []
    ∷ heard 254 (0x93 ∷ 1 ∷ 65 ∷ 0 ∷ 1 ∷ 0 ∷ 1 ∷ 2 ∷ 65 ∷ 0 ∷ 1 ∷ 0 ∷ 0 ∷ []) fresh_table (put fresh_table lamp 1) []
    -- a bad checksum: with the own ID, at level 1, with 254, with another
    ∷ bad_checksum 1 fresh_table (status 1 0x03)
    ∷ bad_checksum 1 (level 1) []
    ∷ bad_checksum 254 fresh_table []
    ∷ bad_checksum 2 fresh_table []
    -- no room for the body
    ∷ exchange ping_to_1 (lending fresh_table dropped 0) (Err NoRoom) (lending fresh_table dropped 0)
    -- a log of one Ping, in which ID 1 alone has a packet, and a log of nothing
    ∷ log (ping_to_1 ∷ []) (1 ∷ 16 ∷ 254 ∷ 24 ∷ 1040 ∷ 10 ∷ 0 ∷ 1 ∷ replicate 252 0) 1050
    ∷ log [] (0 ∷ 16 ∷ 254 ∷ 16 ∷ replicate 254 0) 1032
    -- a plan of two goals, heard by the second device in it, and by one that is not wanted
    ∷ plan two_goals plan_of_two
    ∷ exchange plan_of_two (lending device9 dropped 15) (replied 0 0)
    (left (put device9 goal_position 255) dropped 15 (take 15 (drop 7 plan_of_two)) [])
    ∷ exchange plan_of_two (lending fresh_table dropped 15) (replied 0 0) (left fresh_table dropped 15 (take 15 (drop 7 plan_of_two)) [])
    -- noise that is a packet itself and ends right before one; a packet that ends with the first byte beyond the noise, and one
    -- that begins with the last byte of the noise
    ∷ apart ping_to_1 ping_status
    ∷ across lacks_ff ping_to_1
    ∷ across (take 1 ping_to_1) (drop 1 ping_to_1)
    -- the old boards
    ∷ packet_v1 1 (0x02 ∷ 0x2B ∷ 0x01 ∷ []) read_temperature
    ∷ only_p1 ping_to_253
    ∷ []

abbrev pub CasesHold : Type 0
CasesHold = (c : Case) → Memᴰ c table → Claim c
