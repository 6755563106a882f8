-- What is promised of plans that are heard, applied to the worked ones and to devices 9 and 1, by each form of calls, and to boards.
use Rattle.std.specs.Prelude.{None}
use Rattle.std.specs.Prelude.{◌≡◌, List, [], ◌∷◌, ℕ, pos, take, drop, replicate, get_or}
use Rattle.reading.specs.Calls.{Call, feed, gap, call}
use Rattle.reading.specs.Lists.{model, after, took, given}
use Rattle.reading.specs.Promise.{since}
use Rattle.packet.specs.Verdict.{protocol2}
use Rattle.reader_records.specs.declared.Reader.{Reader}
use Rattle.reader_records.specs.Records.{records, lent}
use Rattle.table_registers.specs.Registers.{device_id, max_position, goal_position}
use Rattle.table_items.specs.Items.{put, value_of}
use Rattle.table_access.specs.Fresh.{fresh_table}
use Rattle.device_instructions.specs.Registered.{dropped}
use Rattle.device_instructions.specs.declared.RegisteredWrite.{RegisteredWrite}
use Rattle.board.specs.Board.{board_of}
use Rattle.device_calls.specs.Calls.{State}
use Rattle.board_in_step.specs.InStep.{boards}
use Rattle.plan.specs.Samples.{plan_of_two, goal_of_3, goal_of_9, plan_in_two}
use Rattle.plan_heard.specs.Hearing.{Device, Form, in_two, in_one, unstuffed, hears_all}
use Rattle.plan_heard.specs.PlanCarriedOut.{of_device, of_board, PlanCarriedOut}

-- device 9, fresh but for its ID, and the longest registered write
abbrev pub device9 : List ℕ
device9 = put fresh_table device_id 9

abbrev pub longest : RegisteredWrite
longest = record { address = 48; count = 8; bytes = replicate 8 0; min = pos 0; max = pos 0 }

-- a device with this table, and with buffers that just suffice
abbrev pub with : List ℕ → Device
with table = record { table = table; registered = longest; body = replicate 15 0xAA; reply = replicate 32 0xAA }

-- the same with nothing registered
abbrev pub unregistered : List ℕ → Device
unregistered table = record { table = table; registered = dropped; body = replicate 15 0xAA; reply = replicate 32 0xAA }

-- a reader that holds nothing, and whose 1,030 bytes are not 0
abbrev pub unused : Reader
unused = lent (replicate 1030 0xAA) 0

-- a byte of noise and a gap come before the plan
abbrev pub earlier : List Call
earlier = feed (0x01 ∷ []) ∷ gap ∷ []

-- the plan in one packet, cut in two; and the one in two packets, of whose second chunk only what ends the first packet is taken
abbrev pub in_halves : List (List ℕ)
in_halves = take 9 plan_of_two ∷ drop 9 plan_of_two ∷ []

abbrev pub in_three : List (List ℕ)
in_three = take 9 plan_in_two ∷ drop 9 plan_in_two ∷ goal_of_9 ∷ []

-- what a device with this table has after these calls, by each form, and what a board has
abbrev pub by : Form → List Call → List ℕ → State
by form calls table = of_device (hears_all form (with table) (given records (after records unused earlier) calls))

abbrev pub on_board : List Call → List ℕ → State
on_board calls table = of_board (after boards (after boards (board_of unused table longest) earlier) calls)

pub record GoalsStored (left : List ℕ → State) : Type 0 where
  -- device 9 has its goal; one whose limits do not admit it, or of which none is wanted, is as it was
  pub stored : value_of goal_position (left device9).table ≡ pos 255
  pub refused : (left (put device9 max_position 254)).table ≡ put device9 max_position 254
  pub unwanted : (left fresh_table).table ≡ fresh_table
  -- no other byte changes, the last before the goal position and the first behind it, and no registered write
  pub before : get_or (left device9).table 115 0 ≡ get_or device9 115 0
  pub behind : get_or (left device9).table 120 0 ≡ get_or device9 120 0
  pub registered : (left device9).registered ≡ longest

-- after calls that take either plan whole
abbrev pub StoredBy : List Call → Type 0
StoredBy calls = GoalsStored (by in_two calls) × GoalsStored (by in_one calls) × GoalsStored (by unstuffed calls) × GoalsStored (on_board calls)

-- fed packet by packet, the plan is taken, and the first gap call says that nothing is left
abbrev pub Taken : List (List ℕ) → List ℕ → Type 0
Taken packets bytes =
    (took (model protocol2) [] (since packets 1) ≡ bytes) × ((call protocol2 (after (model protocol2) [] (since packets 0)) gap).answer ≡ None)

abbrev pub PlanCarriedOutApplied : Type 0
PlanCarriedOutApplied =
    PlanCarriedOut
    → StoredBy (since in_halves 1)
    × StoredBy (since in_three 2)
    × StoredBy (since in_three 3)
    -- from a fresh start, with nothing registered
    × (value_of goal_position (hears_all in_one (unregistered device9) (given records unused (since in_three 3))).table ≡ pos 255)
    × (value_of goal_position (after boards (board_of unused device9 dropped) (since in_three 3)).table ≡ pos 255)
    × Taken (plan_of_two ∷ []) plan_of_two
    × Taken (goal_of_3 ∷ goal_of_9 ∷ []) plan_in_two
