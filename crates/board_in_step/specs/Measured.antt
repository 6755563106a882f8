-- The same where the firmware stores measurements between the calls, as a main loop does: they come between the events, and what is
-- heard is the same.
use Rattle.std.specs.Prelude.{None}
use Rattle.std.specs.Prelude.{◌≡◌, List, [], ◌∷◌, ◌++◌, map, ℕ, ℤ, take}
use Rattle.reading.specs.Reading.{Event}
use Rattle.reading.specs.Calls.{Call}
use Rattle.reading.specs.Lists.{listed, chunk_of, after, took, given}
use Rattle.table_access.specs.Answers.{measure_out}
use Rattle.device_instructions.specs.declared.RegisteredWrite.{RegisteredWrite}
use Rattle.device_status.specs.declared.Reply.{Reply}
use Rattle.board.specs.Board.{Board, board_of, carried_out, board_refusal, outcome}
use Rattle.board_in_step.specs.InStep.{Shown, spoken, boards}

-- a step of the main loop: a call on the board, or a measurement of position and hardware error
pub data LoopStep : Type 0 where
  line : Call → LoopStep
  measured : ℤ → ℕ → LoopStep

abbrev pub calls_in : List LoopStep → List Call
calls_in [] = []
calls_in (line c ∷ steps) = c ∷ calls_in steps
calls_in (measured position error ∷ steps) = calls_in steps

-- what is done with the table: an event is carried out, or a measurement is stored
pub data Job : Type 0 where
  hears : Event → Job
  measures : ℤ → ℕ → Job

abbrev pub events_in : List Job → List Event
events_in [] = []
events_in (hears e ∷ jobs) = e ∷ events_in jobs
events_in (measures position error ∷ jobs) = events_in jobs

-- jobs one after the other
unfoldable pub doing : List ℕ → RegisteredWrite → List Job → Shown
doing table w [] = record { table = table; registered = w; replies = [] }
doing table w (hears e ∷ jobs) =
    let done = carried_out table w e in
    let later = doing done.table done.registered jobs in
    record { table = later.table; registered = later.registered; replies = spoken done.reply ++ later.replies }
doing table w (measures position error ∷ jobs) = doing (measure_out table position error) w jobs

abbrev pub measuring : Board → ℤ → ℕ → Board
measuring b position error = board_of b.reader (measure_out b.table position error) b.registered

-- what the steps come to: the board, the bytes taken, the replies, and the jobs in their order
unfoldable pub board_after : Board → List LoopStep → Board
board_after b [] = b
board_after b (line c ∷ steps) = board_after (outcome b c).board steps
board_after b (measured position error ∷ steps) = board_after (measuring b position error) steps

unfoldable pub taken_in : Board → List LoopStep → List ℕ
taken_in b [] = []
taken_in b (line c ∷ steps) = take (outcome b c).report.taken (chunk_of c) ++ taken_in (outcome b c).board steps
taken_in b (measured position error ∷ steps) = taken_in (measuring b position error) steps

unfoldable pub replies_in : Board → List LoopStep → List Reply
replies_in b [] = []
replies_in b (line c ∷ steps) = spoken (outcome b c).report.reply ++ replies_in (outcome b c).board steps
replies_in b (measured position error ∷ steps) = replies_in (measuring b position error) steps

unfoldable pub jobs_of : Board → List LoopStep → List Job
jobs_of b [] = []
jobs_of b (line c ∷ steps) = map hears (listed (outcome b c).report.event) ++ jobs_of (outcome b c).board steps
jobs_of b (measured position error ∷ steps) = measures position error ∷ jobs_of (measuring b position error) steps

abbrev pub shown_in : Board → List LoopStep → Shown
shown_in b steps =
    record { table = (board_after b steps).table; registered = (board_after b steps).registered; replies = replies_in b steps }

-- On a board that is not refused: it shows what comes of the jobs. The events among them, the bytes taken and the reader are those of
-- the calls without a measurement, of which `InStep` speaks. No step leads to a refusal. [B12]
pub record InStepMeasured : Type 0 where
  pub each_once : (b : Board) → board_refusal b ≡ None → (steps : List LoopStep) → shown_in b steps ≡ doing b.table b.registered (jobs_of b steps)
  pub same_heard : (b : Board) → board_refusal b ≡ None → (steps : List LoopStep) → events_in (jobs_of b steps) ≡ given boards b (calls_in steps)
  pub same_taken : (b : Board) → board_refusal b ≡ None → (steps : List LoopStep) → taken_in b steps ≡ took boards b (calls_in steps)
  pub same_reader : (b : Board) → board_refusal b ≡ None → (steps : List LoopStep) → (board_after b steps).reader ≡ (after boards b (calls_in steps)).reader
  pub never_refused : (b : Board) → board_refusal b ≡ None → (steps : List LoopStep) → board_refusal (board_after b steps) ≡ None
