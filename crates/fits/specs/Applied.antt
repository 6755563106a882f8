-- What fits, applied at its bounds: the longest packets, as many bytes held as can be, slot 252, whole buffers.
use Rattle.std.specs.Prelude.{List, [], ◌∷◌, ◌++◌, ℕ, ◌-◌, ◌≤◌, pos, length, take, drop, replicate}
use Rattle.reading.specs.Calls.{Call, feed}
use Rattle.packet_encoder.specs.Writing.{packet_of}
use Rattle.packet_protocols.specs.declared.Protocol.{Protocol}
use Rattle.packet_protocols.specs.declared.Protocol.TheVariants.{Two, One, Mercury}
use Rattle.reader_records.specs.declared.Reader.{Reader}
use Rattle.reader_records.specs.Records.{lent}
use Rattle.log_layout.specs.Log.{laid}
use Rattle.log_layout.specs.Samples.{ping_to_1, ping_to_2}
use Rattle.table_registers.specs.Registers.{device_id, max_position, min_position, hardware_error}
use Rattle.table_items.specs.Items.{put}
use Rattle.table_access.specs.Fresh.{fresh_table}
use Rattle.device_instructions.specs.declared.RegisteredWrite.{RegisteredWrite}
use Rattle.board.specs.Board.{Board, board_of}
use Rattle.fits.specs.Fits.{StepsFit, BoardFits, DeviceFits, EventFits, FoundFits, SalvagedFits, CountsFit}

-- the longest packet of each protocol
abbrev pub longest : Protocol → List ℕ
longest Two = 0xFF ∷ 0xFF ∷ 0xFD ∷ 0x00 ∷ 0xFE ∷ 0x00 ∷ 0x04 ∷ (replicate 1022 0x00 ++ 0xF8 ∷ 0xD2 ∷ [])
longest One = 0xFF ∷ 0xFF ∷ 0xFE ∷ 0xFF ∷ (replicate 254 0x00 ++ 0x02 ∷ [])
longest Mercury = 0xFF ∷ 0xFF ∷ 0xFE ∷ 0xFF ∷ (replicate 254 0x00 ++ 0x02 ∷ [])

-- a record that holds all of it but the last n bytes, and a call with the next one
abbrev pub lacking : ℕ → Protocol → Reader
lacking n p = lent (longest p) (length (longest p) - n)

abbrev pub next_of : ℕ → Protocol → Call
next_of n p = feed (take 1 (drop (length (longest p) - n) (longest p)))

pub record Stepped (most more : ℕ) : Type 0 where
  -- the last byte but one is taken, and as many are held as can be
  pub taken : 1 ≤ 1
  pub held : most ≤ most
  -- with the last one the packet is whole
  pub count : more ≤ more
  -- a count that is refused stays
  pub refused : 2000 ≤ 2000

abbrev pub StepsFitApplied : Type 0
StepsFitApplied = StepsFit → Stepped 1030 1031 × Stepped 258 259 × Stepped 258 259

-- the longest registered write, and device 252 with it
abbrev pub registered : RegisteredWrite
registered = record { address = 48; count = 8; bytes = replicate 8 0; min = pos 0; max = pos 0 }

abbrev pub table : List ℕ
table = put fresh_table device_id 252

abbrev pub board : Reader → Board
board r = board_of r table registered

abbrev pub ping_to_all : List ℕ
ping_to_all = 0xFF ∷ 0xFF ∷ 0xFD ∷ 0x00 ∷ 0xFE ∷ 0x03 ∷ 0x00 ∷ 0x01 ∷ 0x31 ∷ 0x42 ∷ []

-- of a Ping to all ten bytes are taken, and 252 answers it in slot 252
abbrev pub BoardFitsApplied : Type 0
BoardFitsApplied = BoardFits → (10 ≤ 10) × (1031 ≤ 1031) × (1030 ≤ 1030) × (2000 ≤ 2000) × (252 ≤ 252)

-- the same device with FF FF FD 00 in both limits and a hardware error, and a Sync Read of them from 3, 2 and 252: the longest status
abbrev pub marked : List ℕ
marked = put (put (put table max_position 0x00FDFFFF) min_position 0x00FDFFFF) hardware_error 4

abbrev pub read_limits : List ℕ
read_limits = 0x82 ∷ 48 ∷ 0 ∷ 8 ∷ 0 ∷ 3 ∷ 2 ∷ 252 ∷ []

-- its packet
abbrev pub read_limits_packet : List ℕ
read_limits_packet = packet_of 254 read_limits

abbrev pub DeviceFitsApplied : Type 0
DeviceFitsApplied = DeviceFits → (252 ≤ 252) × (252 ≤ 252) × (252 ≤ 252) × (252 ≤ 252) × (21 ≤ 21) × (21 ≤ 21)

-- a byte of noise and a Ping
abbrev pub segment : List ℕ
segment = 0x00 ∷ ping_to_1

abbrev pub EventFitsApplied : Type 0
EventFitsApplied = EventFits → (1 ≤ 11) × (10 ≤ 11) × (11 ≤ 11)

-- a log of a Ping to 1, and of one to 2 behind a byte of noise; and without its last byte
abbrev pub file : List ℕ
file = laid (2 ∷ 16 ∷ 254 ∷ 32 ∷ 1048 ∷ 10 ∷ 1058 ∷ 11 ∷ 0 ∷ 1 ∷ 2 ∷ replicate 251 0) (ping_to_1 ++ 0x00 ∷ ping_to_2)

abbrev pub FoundFitsApplied : Type 0
FoundFitsApplied = FoundFits → (1 ≤ 1069) × (1 ≤ 1069)

-- one entry and one index number are dropped, and ten bytes left over
abbrev pub SalvagedFitsApplied : Type 0
SalvagedFitsApplied = SalvagedFits → (1 ≤ 1068) × (1 ≤ 254) × (10 ≤ 1068) × (1050 ≤ 1068)

-- the longest packets in buffers with room to spare, others in buffers that just suffice
pub record Counted : Type 0 where
  pub longest_encoded : 1031 ≤ 1031
  pub just_encoded : 10 ≤ 12
  pub longest_v1 : 259 ≤ 259
  pub just_v1 : 6 ≤ 8
  pub all_unstuffed : 3 ≤ 3
  pub just_unstuffed : 3 ≤ 3
  pub status : 22 ≤ 22
  pub logged : 1068 ≤ 1068
  pub planned : 24 ≤ 24

abbrev pub CountsFitApplied : Type 0
CountsFitApplied = CountsFit → Counted
