-- The call on a packet as received, as the exchanges show it: what is lent to it, what it answers, and what it leaves.
use Rattle.std.specs.Prelude.{Result}
use Rattle.std.specs.Prelude.{List, [], ◌∷◌, ◌++◌, ℕ, ◌-◌, pos, length, replicate}
use Rattle.table_registers.specs.Registers.{device_id, baud_code, torque_enable, status_return_level, hardware_error, max_position, min_position, goal_position, registered_instruction}
use Rattle.table_items.specs.Items.{put}
use Rattle.table_access.specs.Fresh.{fresh_table, measured}
use Rattle.device_packet.specs.Exchange.{exchange_answer, exchange_table, exchange_registered, exchange_body, exchange_out}
use Rattle.device_instructions.specs.declared.RegisteredWrite.{RegisteredWrite}
use Rattle.device.specs.declared.Sent.{Sent}
use Rattle.answers.specs.declared.Refusal.{Refusal}

-- control table, registered write, body buffer and reply buffer
pub record Lent : Type 0 where
  pub table : List ℕ
  pub registered : RegisteredWrite
  pub body : List ℕ
  pub reply : List ℕ

abbrev pub answer_to : List ℕ → Lent → Result Sent Refusal
answer_to packet l = exchange_answer l.table l.registered packet l.body l.reply

abbrev pub left_after : List ℕ → Lent → Lent
left_after packet l =
    record {
      table = exchange_table l.table l.registered packet l.body l.reply;
      registered = exchange_registered l.table l.registered packet l.body l.reply;
      body = exchange_body l.table l.registered packet l.body l.reply;
      reply = exchange_out l.table l.registered packet l.body l.reply;
    }

-- a body buffer of n bytes and a reply buffer of 32, all AA to begin with
abbrev pub lending : List ℕ → RegisteredWrite → ℕ → Lent
lending table w n = record { table = table; registered = w; body = replicate n 0xAA; reply = replicate 32 0xAA }

-- the same after a call: the unstuffed body and the status at their starts, and AA behind them
abbrev pub left : List ℕ → RegisteredWrite → ℕ → List ℕ → List ℕ → Lent
left table w n body status =
    record {
      table = table;
      registered = w;
      body = body ++ replicate (n - length body) 0xAA;
      reply = status ++ replicate (32 - length status) 0xAA;
    }

-- ---- tables and registered writes

-- a fresh table with 166 measured
abbrev pub at166 : List ℕ
at166 = measured fresh_table (pos 166) 0

-- one with the goal position at 512
abbrev pub goal_at_512 : List ℕ
goal_at_512 = put fresh_table goal_position 512

-- one that says that a write is registered, and such a write: goal position 4096, which is out of range
abbrev pub registered_table : List ℕ
registered_table = put fresh_table registered_instruction 1

abbrev pub goal_too_large : RegisteredWrite
goal_too_large =
    record {
      address = 116;
      count = 4;
      bytes = 0x00 ∷ 0x10 ∷ 0x00 ∷ 0x00 ∷ 0x00 ∷ 0x00 ∷ 0x00 ∷ 0x00 ∷ [];
      min = pos 0;
      max = pos 4095;
    }

-- goal position 512, registered at the limits of a fresh table
abbrev pub goal_registered : RegisteredWrite
goal_registered =
    record {
      address = 116;
      count = 4;
      bytes = 0x00 ∷ 0x02 ∷ 0x00 ∷ 0x00 ∷ 0x00 ∷ 0x00 ∷ 0x00 ∷ 0x00 ∷ [];
      min = pos 0;
      max = pos 4095;
    }

-- an older one, which turns the lamp on, registered at the limits 100 and 4,000
abbrev pub lamp_registered : RegisteredWrite
lamp_registered = record { address = 65; count = 1; bytes = 0x01 ∷ replicate 7 0x00; min = pos 100; max = pos 4000 }

-- one with FF FF FD 00 in both limits of the position
abbrev pub marked_limits : List ℕ
marked_limits = put (put fresh_table max_position 0x00FDFFFF) min_position 0x00FDFFFF

-- one of device 9
abbrev pub device9 : List ℕ
device9 = put fresh_table device_id 9

-- ---- packets that are printed nowhere

-- Ping to 1 with a wrong checksum, and with a parameter; the status with error 05
abbrev pub ping_wrong_checksum : List ℕ
ping_wrong_checksum = 0xFF ∷ 0xFF ∷ 0xFD ∷ 0x00 ∷ 0x01 ∷ 0x03 ∷ 0x00 ∷ 0x01 ∷ 0x19 ∷ 0x4F ∷ []

abbrev pub ping_with_parameter : List ℕ
ping_with_parameter = 0xFF ∷ 0xFF ∷ 0xFD ∷ 0x00 ∷ 0x01 ∷ 0x04 ∷ 0x00 ∷ 0x01 ∷ 0x00 ∷ 0xA7 ∷ 0xF4 ∷ []

abbrev pub length_status : List ℕ
length_status = 0xFF ∷ 0xFF ∷ 0xFD ∷ 0x00 ∷ 0x01 ∷ 0x04 ∷ 0x00 ∷ 0x55 ∷ 0x05 ∷ 0xBF ∷ 0x0C ∷ []

-- Action to 1 and to all; the status with error 04
abbrev pub action_to_1 : List ℕ
action_to_1 = 0xFF ∷ 0xFF ∷ 0xFD ∷ 0x00 ∷ 0x01 ∷ 0x03 ∷ 0x00 ∷ 0x05 ∷ 0x02 ∷ 0xCE ∷ []

abbrev pub action_to_all : List ℕ
action_to_all = 0xFF ∷ 0xFF ∷ 0xFD ∷ 0x00 ∷ 0xFE ∷ 0x03 ∷ 0x00 ∷ 0x05 ∷ 0x2A ∷ 0xC2 ∷ []

abbrev pub range_status : List ℕ
range_status = 0xFF ∷ 0xFF ∷ 0xFD ∷ 0x00 ∷ 0x01 ∷ 0x04 ∷ 0x00 ∷ 0x55 ∷ 0x04 ∷ 0xBA ∷ 0x8C ∷ []

-- Write of 512 at 52; the status with error 06
abbrev pub raise_min : List ℕ
raise_min = 0xFF ∷ 0xFF ∷ 0xFD ∷ 0x00 ∷ 0x01 ∷ 0x09 ∷ 0x00 ∷ 0x03 ∷ 0x34 ∷ 0x00 ∷ 0x00 ∷ 0x02 ∷ 0x00 ∷ 0x00 ∷ 0x8D ∷ 0x09 ∷ []

abbrev pub limit_status : List ℕ
limit_status = 0xFF ∷ 0xFF ∷ 0xFD ∷ 0x00 ∷ 0x01 ∷ 0x04 ∷ 0x00 ∷ 0x55 ∷ 0x06 ∷ 0xB5 ∷ 0x0C ∷ []

-- Reg Write of 512 at 116, and Write of 4000 at 48
abbrev pub register_goal : List ℕ
register_goal =
    0xFF ∷ 0xFF ∷ 0xFD ∷ 0x00 ∷ 0x01 ∷ 0x09 ∷ 0x00 ∷ 0x04 ∷ 0x74 ∷ 0x00 ∷ 0x00 ∷ 0x02 ∷ 0x00 ∷ 0x00 ∷ 0xB9 ∷ 0x0E ∷ []

abbrev pub lower_max : List ℕ
lower_max =
    0xFF ∷ 0xFF ∷ 0xFD ∷ 0x00 ∷ 0x01 ∷ 0x09 ∷ 0x00 ∷ 0x03 ∷ 0x30 ∷ 0x00 ∷ 0xA0 ∷ 0x0F ∷ 0x00 ∷ 0x00 ∷ 0x5F ∷ 0x69 ∷ []

-- Sync Read of four bytes at 132 from 3, 2 and 1
abbrev pub sync_read_position : List ℕ
sync_read_position =
    0xFF ∷ 0xFF ∷ 0xFD ∷ 0x00 ∷ 0xFE ∷ 0x0A ∷ 0x00 ∷ 0x82 ∷ 0x84 ∷ 0x00 ∷ 0x04 ∷ 0x00 ∷ 0x03 ∷ 0x02 ∷ 0x01 ∷ 0x0E ∷ 0x6C ∷ []

-- Bulk Read of four bytes at 132 from 2 and of four at 116 from 1, and the reply with 0
abbrev pub bulk_read_goal : List ℕ
bulk_read_goal =
    0xFF ∷ 0xFF ∷ 0xFD ∷ 0x00 ∷ 0xFE ∷ 0x0D ∷ 0x00
    ∷ 0x92 ∷ 0x02 ∷ 0x84 ∷ 0x00 ∷ 0x04 ∷ 0x00 ∷ 0x01 ∷ 0x74 ∷ 0x00 ∷ 0x04 ∷ 0x00
    ∷ 0x60 ∷ 0x3A ∷ []

abbrev pub zero_status : List ℕ
zero_status = 0xFF ∷ 0xFF ∷ 0xFD ∷ 0x00 ∷ 0x01 ∷ 0x08 ∷ 0x00 ∷ 0x55 ∷ 0x00 ∷ 0x00 ∷ 0x00 ∷ 0x00 ∷ 0x00 ∷ 0xBF ∷ 0xB8 ∷ []

-- Bulk Write of 512 at 116 to 1 and of one byte at 31 to 2
abbrev pub bulk_write_goal : List ℕ
bulk_write_goal =
    0xFF ∷ 0xFF ∷ 0xFD ∷ 0x00 ∷ 0xFE ∷ 0x12 ∷ 0x00
    ∷ 0x93 ∷ 0x01 ∷ 0x74 ∷ 0x00 ∷ 0x04 ∷ 0x00 ∷ 0x00 ∷ 0x02 ∷ 0x00 ∷ 0x00 ∷ 0x02 ∷ 0x1F ∷ 0x00 ∷ 0x01 ∷ 0x00 ∷ 0x50
    ∷ 0x19 ∷ 0xC4 ∷ []

-- device 9 at work: torque on, an alert, limits and goal moved
abbrev pub worked : List ℕ
worked = put (put (put (put (put device9 baud_code 3) max_position 4000) torque_enable 1) hardware_error 4) goal_position 512

-- fresh ones with torque on, with a hardware error, and with another status return level
abbrev pub locked : List ℕ
locked = put fresh_table torque_enable 1

abbrev pub alerted : List ℕ
alerted = put fresh_table hardware_error 4

abbrev pub level : ℕ → List ℕ
level n = put fresh_table status_return_level n

-- Read of eight bytes at 48, and the longest status
abbrev pub read_limits : List ℕ
read_limits = 0xFF ∷ 0xFF ∷ 0xFD ∷ 0x00 ∷ 0x01 ∷ 0x07 ∷ 0x00 ∷ 0x02 ∷ 0x30 ∷ 0x00 ∷ 0x08 ∷ 0x00 ∷ 0x2B ∷ 0xAD ∷ []

abbrev pub longest_status : List ℕ
longest_status =
    0xFF ∷ 0xFF ∷ 0xFD ∷ 0x00 ∷ 0x01 ∷ 0x0E ∷ 0x00
    ∷ 0x55 ∷ 0x00 ∷ 0xFF ∷ 0xFF ∷ 0xFD ∷ 0xFD ∷ 0x00 ∷ 0xFF ∷ 0xFF ∷ 0xFD ∷ 0xFD ∷ 0x00
    ∷ 0xA8 ∷ 0x78 ∷ []
