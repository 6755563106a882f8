use Rattle.std.specs.Prelude.{None}
use mathlib.Core.Path.{◌≡◌, refl}
use mathlib.Core.List.Memᴰ
use mathlib.Core.List.{List, [], ◌∷◌}
use mathlib.Core.Logic.{⊎_elim, inl, inr}
use Prim.Native.Nat.{ℕ, zero, suc}
use native.Mathlib.Omega.{arith}
use lib.IntN.{pos}
use lib.ListN.{replicate}
use borrow.Author.Tests.{leb-true, ltb-true}
use Rattle.lists.specs.Numbers.{number_at, bytes_of}
use Rattle.crc.specs.Crc.{reduce_if, shift, shifts, crc_byte, crc_from}
use Rattle.stuffing.specs.Stuffing.{well_after, unstuff_after}
use Rattle.reading.specs.Calls.{Call, feed, first, fed, call}
use Rattle.reading.specs.Lists.{model, after, took, given}
use Rattle.reading.specs.Promise.{since, AtStart}
use Rattle.packet_front.specs.Front.{length_of}
use Rattle.packet_front.specs.Header.{front_agrees, length_agrees}
use Rattle.packet_rules.specs.Shape.{verdict as shapeVerdict}
use Rattle.packet.specs.Packet.{body_of, checksum_right}
use Rattle.packet.specs.Verdict.{protocol2}
use Rattle.reader_records.specs.Records.{records}
use Rattle.table_registers.specs.Registers.{registers, max_position, goal_position}
use Rattle.table_items.specs.Items.{value_at, put, value_of}
use Rattle.table_access.specs.Fresh.{freshened, fresh_table}
use Rattle.device_instructions.specs.Registered.{dropped}
use Rattle.device_instructions.specs.declared.RegisteredWrite.{RegisteredWrite}
use Rattle.device.specs.Answers.{state_refusal, room_refusal, call_refusal}
use Rattle.board.specs.Board.{board_of, lent_refusal, reader_left, outcome}
use Rattle.device_calls.specs.Calls.{State, state_of}
use Rattle.board_in_step.specs.InStep.{boards}
use Rattle.plan.specs.Samples.{two_goals, plan_of_two, goal_of_3, goal_of_9, plan_in_two}
use Rattle.plan.proofs.Samples.{plan_of_two_lem, plan_in_two_lem, two_goals_good}
use Rattle.plan_heard.specs.Hearing.{Device, Form, in_two, in_one, unstuffed, hears_all}
use Rattle.plan_heard.specs.PlanCarriedOut.{fault_of, Ready, of_board, Obeyed, TakenWhole, PlanCarriedOut}
use Rattle.plan_heard.specs.Applied.{device9, longest, with, unregistered, unused, earlier, in_halves, in_three, by, on_board, GoalsStored, StoredBy, Taken, PlanCarriedOutApplied}

-- a device with this registered write
abbrev holds : RegisteredWrite → List ℕ → Device
holds w table = record { table = table; registered = w; body = replicate 15 0xAA; reply = replicate 32 0xAA }

-- the body buffer has room for each packet, and not for both of the second plan
ready_one : (form : Form) (table : List ℕ) → fault_of form (with table) ≡ None → Ready form (with table) (plan_of_two ∷ [])
unfolding body_of unstuff_after
ready_one form table e =
    record {
      faultless = e;
      room = λ w m. ⊎_elim (λ i. rw i (leb-true _ _ refl)) (λ n. absurd (Memᴰ.not-nil n)) (Memᴰ.cases_cons m);
    }

ready_two : (form : Form) (w : RegisteredWrite) (table : List ℕ) → fault_of form (holds w table) ≡ None → Ready form (holds w table) (goal_of_3 ∷ goal_of_9 ∷ [])
unfolding body_of unstuff_after
ready_two form w table e =
    record {
      faultless = e;
      room = λ w m.
          ⊎_elim (λ i. rw i (leb-true _ _ refl))
          (λ n. ⊎_elim (λ i. rw i (leb-true _ _ refl)) (λ k. absurd (Memᴰ.not-nil k)) (Memᴰ.cases_cons n))
          (Memᴰ.cases_cons m);
    }

at_start : AtStart (model protocol2) [] earlier
unfolding after first fed call front_agrees length_agrees shapeVerdict
at_start = inr (feed (0x01 ∷ []) ∷ [], refl, refl)

taken_one : TakenWhole in_halves 1 plan_of_two
unfolding after took first fed call reduce_if shift shifts crc_byte crc_from well_after length_of body_of checksum_right front_agrees length_agrees shapeVerdict
taken_one = (refl, (0, omega arith, refl))

taken_two : TakenWhole in_three 2 plan_in_two
unfolding after took first fed call reduce_if shift shifts crc_byte crc_from well_after length_of body_of checksum_right front_agrees length_agrees shapeVerdict
taken_two = (refl, (0, omega arith, refl))

-- by one more gap call
taken_late : TakenWhole in_three 3 plan_in_two
unfolding after took first fed call reduce_if shift shifts crc_byte crc_from well_after length_of body_of checksum_right front_agrees length_agrees shapeVerdict
taken_late = (refl, (0, omega arith, refl))

-- what is promised of a table
abbrev Obeys : (List ℕ → State) → List ℕ → Type 0
Obeys left table = Obeyed two_goals (state_of table longest) (left table)

goals_stored : (left : List ℕ → State) → Obeys left device9 → Obeys left (put device9 max_position 254) → Obeys left fresh_table → GoalsStored left
unfolding registers freshened put bytes_of value_at number_at
goals_stored left nine narrow one =
    record {
      stored = nine.stored 255 refl refl;
      refused = narrow.refused 255 refl refl;
      unwanted = one.unwanted refl;
      before = nine.others 115 (inl (ltb-true _ _ refl));
      behind = nine.others 120 (inr (leb-true _ _ refl));
      registered = nine.registered;
    }

-- ---- by calls

-- and of every table that the form does not refuse
abbrev EachObeys : List Call → Type 0
EachObeys calls = (form : Form) (table : List ℕ) → fault_of form (with table) ≡ None → Obeys (by form calls) table

in_one_packet : PlanCarriedOut → EachObeys (since in_halves 1)
unfolding plan_of_two_lem
in_one_packet t form table e =
    t.carried_out_lem two_goals plan_of_two two_goals_good plan_of_two_lem unused refl earlier at_start in_halves 1 taken_one form (with table) (ready_one form table e)

in_two_packets : PlanCarriedOut → (g : ℕ) → TakenWhole in_three g plan_in_two → EachObeys (since in_three g)
unfolding plan_in_two_lem
in_two_packets t g taken form table e =
    t.carried_out_lem two_goals plan_in_two two_goals_good plan_in_two_lem unused refl earlier at_start in_three g taken form (with table) (ready_two form longest table e)

in_two_lem : (calls : List Call) → EachObeys calls → GoalsStored (by in_two calls)
unfolding registers freshened put bytes_of state_refusal
in_two_lem calls o = goals_stored (by in_two calls) (o in_two _ refl) (o in_two _ refl) (o in_two _ refl)

by_body : (calls : List Call) → EachObeys calls → GoalsStored (by unstuffed calls)
unfolding registers freshened put bytes_of state_refusal
by_body calls o = goals_stored (by unstuffed calls) (o unstuffed _ refl) (o unstuffed _ refl) (o unstuffed _ refl)

in_one_lem : (calls : List Call) → EachObeys calls → GoalsStored (by in_one calls)
unfolding registers freshened put bytes_of state_refusal room_refusal call_refusal
in_one_lem calls o = goals_stored (by in_one calls) (o in_one _ refl) (o in_one _ refl) (o in_one _ refl)

-- ---- by a board

abbrev OnBoard : List Call → Type 0
OnBoard calls =
    (table : List ℕ) → boards.Fresh (board_of unused table longest)
    → Obeyed two_goals (of_board (after boards (board_of unused table longest) earlier)) (on_board calls table)

board_one : PlanCarriedOut → OnBoard (since in_halves 1)
unfolding plan_of_two_lem
board_one t table fresh =
    t.on_board_lem two_goals plan_of_two two_goals_good plan_of_two_lem (board_of unused table longest) fresh earlier at_start in_halves 1 taken_one

board_two : PlanCarriedOut → (g : ℕ) → TakenWhole in_three g plan_in_two → OnBoard (since in_three g)
unfolding plan_in_two_lem
board_two t g taken table fresh =
    t.on_board_lem two_goals plan_in_two two_goals_good plan_in_two_lem (board_of unused table longest) fresh earlier at_start in_three g taken

on_board_lem : (calls : List Call) → OnBoard calls → GoalsStored (on_board calls)
unfolding after outcome reader_left first fed call front_agrees length_agrees shapeVerdict registers freshened put bytes_of state_refusal lent_refusal
on_board_lem calls o = goals_stored (on_board calls) (o device9 (refl, refl)) (o (put device9 max_position 254) (refl, refl)) (o fresh_table (refl, refl))

-- ---- from a fresh start, with nothing registered

alone : PlanCarriedOut → value_of goal_position (hears_all in_one (unregistered device9) (given records unused (since in_three 3))).table ≡ pos 255
unfolding plan_in_two_lem after registers freshened put bytes_of value_at number_at state_refusal room_refusal call_refusal
alone t =
    (t.carried_out_lem two_goals plan_in_two two_goals_good plan_in_two_lem unused refl [] (inl refl) in_three 3 taken_late in_one (unregistered device9)
    (ready_two in_one dropped device9 refl)).stored 255 refl refl

board_alone : PlanCarriedOut → value_of goal_position (after boards (board_of unused device9 dropped) (since in_three 3)).table ≡ pos 255
unfolding plan_in_two_lem after registers freshened put bytes_of value_at number_at state_refusal lent_refusal
board_alone t =
    (t.on_board_lem two_goals plan_in_two two_goals_good plan_in_two_lem (board_of unused device9 dropped) (refl, refl) [] (inl refl) in_three 3 taken_late
    ).stored 255 refl refl

-- ---- all of it

heard_by_lem : (calls : List Call) → EachObeys calls → OnBoard calls → StoredBy calls
heard_by_lem calls o b = (in_two_lem calls o, in_one_lem calls o, by_body calls o, on_board_lem calls b)

-- the one gap call is the first
all_taken : (packets : List (List ℕ)) (bytes : List ℕ) → TakenWhole packets 1 bytes → Taken packets bytes
all_taken packets bytes (e, (zero, h, n)) = (e, n)
all_taken packets bytes (e, (suc k, h, n)) = absurd (omega arith)

pub plan_carried_out_applied : PlanCarriedOutApplied
unfolding plan_of_two_lem plan_in_two_lem
plan_carried_out_applied t = (
  heard_by_lem (since in_halves 1) (in_one_packet t) (board_one t),
  heard_by_lem (since in_three 2) (in_two_packets t 2 taken_two) (board_two t 2 taken_two),
  heard_by_lem (since in_three 3) (in_two_packets t 3 taken_late) (board_two t 3 taken_late),
  alone t,
  board_alone t,
  all_taken (plan_of_two ∷ []) plan_of_two (t.can_be_taken two_goals plan_of_two plan_of_two_lem),
  all_taken (goal_of_3 ∷ goal_of_9 ∷ []) plan_in_two (t.can_be_taken two_goals plan_in_two plan_in_two_lem),
)
