-- An accepted plan, whoever made it, that a reader takes as one whole segment and a device then hears: its goal is stored.
use Rattle.std.specs.Prelude.{None, Option}
use Rattle.std.specs.Prelude.{◌≡◌, Bool, true, false, ◌&&◌, ◌⊎◌, ℕ, ◌≤◌, ◌<◌, ℤ, pos, length, get_or}
use mathlib.Core.List.{List, [], ◌∷◌, Memᴰ}
use Rattle.std.specs.Int.Signed.{le_z}
use Rattle.answers.specs.declared.Refusal.{Refusal}
use Rattle.stuffing.specs.Stuffing.{unstuff}
use Rattle.reading.specs.Calls.{Call}
use Rattle.reading.specs.Lists.{model, after, took, given}
use Rattle.reading.specs.Promise.{since, AtStart, Finished}
use Rattle.packet.specs.Packet.{body_of}
use Rattle.packet.specs.Verdict.{protocol2}
use Rattle.reader_records.specs.Records.{records}
use Rattle.table_registers.specs.Registers.{min_position, max_position, goal_position, end_of}
use Rattle.table_items.specs.Items.{value_of}
use Rattle.device_dispatch.specs.Reactions.{own_id}
use Rattle.device.specs.Answers.{state_refusal, call_refusal}
use Rattle.board.specs.Board.{Board}
use Rattle.device_calls.specs.Calls.{State, state_of}
use Rattle.board_in_step.specs.InStep.{boards}
use Rattle.plan.specs.Goals.{wanted, goals_refusal}
use Rattle.plan.specs.Plan.{Plan}
use Rattle.plan_heard.specs.Hearing.{Device, Form, in_two, in_one, unstuffed, hears_all}

-- the limits that stand in the table admit the goal [W10]
abbrev pub admits : List ℕ → ℕ → Bool
admits table goal = le_z (value_of min_position table) (pos goal) && le_z (pos goal) (value_of max_position table)

-- the device's own test of faults: 21 to 23, and in the one call 24
abbrev pub fault_of : Form → Device → Option Refusal
fault_of in_two d = state_refusal d.table d.registered
fault_of unstuffed d = state_refusal d.table d.registered
fault_of in_one d = call_refusal d.table d.registered d.reply

-- No call gives 13, or 21 to 25: the device's test passes, and the body buffer has room for each packet's unstuffed body. 25 comes
-- from no reader at a start (Q2), and 14 of no well-formed packet. [W10]
pub record Ready (form : Form) (d : Device) (packets : List (List ℕ)) : Type 0 where
  pub faultless : fault_of form d ≡ None
  pub room : (w : List ℕ) → Memᴰ w packets → length (unstuff (body_of w)) ≤ length d.body

-- the table and the registered write of a device, and of a board
abbrev pub of_device : Device → State
of_device d = state_of d.table d.registered

abbrev pub of_board : Board → State
of_board b = state_of b.table b.registered

-- what a device that had `s` has then
pub record Obeyed (goals : List ℤ) (s now : State) : Type 0 where
  -- a goal that is wanted of it, between the limits in its table, has become its goal position [W10]
  pub stored : (goal : ℕ) → wanted goals (own_id s.table) ≡ goal ∷ [] → admits s.table goal ≡ true
      → value_of goal_position now.table ≡ pos goal
  -- with one that they do not admit, or none, its table is as it was [W10]
  pub refused : (goal : ℕ) → wanted goals (own_id s.table) ≡ goal ∷ [] → admits s.table goal ≡ false → now.table ≡ s.table
  -- [W10]
  pub unwanted : wanted goals (own_id s.table) ≡ [] → now.table ≡ s.table
  -- whatever its ID, no byte beside the goal position changes, and no registered write [W10]
  pub others : (a : ℕ) → (a < goal_position.address) ⊎ (end_of goal_position ≤ a) → get_or now.table a 0 ≡ get_or s.table a 0
  pub registered : now.registered ≡ s.registered

-- feeding calls with these chunks and then g gap calls: by the packet rules they take the bytes and finish the gap
abbrev pub TakenWhole : List (List ℕ) → ℕ → List ℕ → Type 0
TakenWhole chunks g bytes = (took (model protocol2) [] (since chunks g) ≡ bytes) × Finished (model protocol2) [] chunks g

-- [W10]
pub record PlanCarriedOut : Type 0 where
  -- For every plan of goals that are not refused, and every list of calls that take it whole, however cut, on a reader at a fresh
  -- start or a finished gap: each event that the reader gives is handed to the device.
  pub carried_out_lem : (goals : List ℤ) (bytes : List ℕ) → goals_refusal goals ≡ None → (plan : Plan goals bytes)
      → (x : records.State) → records.Fresh x → (earlier : List Call) → AtStart (model protocol2) [] earlier
      → (chunks : List (List ℕ)) (g : ℕ) → TakenWhole chunks g bytes → (form : Form) (d : Device) → Ready form d plan.packets
      → Obeyed goals (of_device d) (of_device (hears_all form d (given records (after records x earlier) (since chunks g))))
  -- and a board that takes it so, whose calls give none of these numbers
  pub on_board_lem : (goals : List ℤ) (bytes : List ℕ) → goals_refusal goals ≡ None → (plan : Plan goals bytes)
      → (b : Board) → boards.Fresh b → (earlier : List Call) → AtStart (model protocol2) [] earlier
      → (chunks : List (List ℕ)) (g : ℕ) → TakenWhole chunks g bytes
      → Obeyed goals (of_board (after boards b earlier)) (of_board (after boards (after boards b earlier) (since chunks g)))
  -- such calls are there: each packet of the plan is one chunk, and one gap call follows
  pub can_be_taken : (goals : List ℤ) (bytes : List ℕ) (plan : Plan goals bytes) → TakenWhole plan.packets 1 bytes
