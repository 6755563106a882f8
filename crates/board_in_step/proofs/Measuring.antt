-- Measurements between the calls.
use Rattle.std.specs.Prelude.{None, Option, Some}
use mathlib.Core.Path.{◌≡◌, refl, sym, ap, subst, ◌∙◌}
use mathlib.Core.List.{List, [], ◌∷◌, ◌++◌, map, Memᴰ}
use Prim.Native.Nat.{ℕ, ◌≤◌}
use native.Mathlib.Omega.{arith}
use lib.IntN.{ℤ}
use Rattle.reading.specs.Reading.{Event}
use Rattle.reading.specs.Calls.{Call, call}
use lib.ListN.{take}
use Rattle.reading.specs.Lists.{listed, chunk_of, model, after, took, given}
use Rattle.reading.proofs.Follows.{follows_given, follows_took}
use Rattle.packet.specs.Verdict.{protocol2}
use Rattle.reader_records.specs.Records.{held_in}
use Rattle.device_instructions.specs.declared.RegisteredWrite.{RegisteredWrite}
use Rattle.device_calls.specs.Calls.{measurement, lend, state_of}
use Rattle.device_calls.proofs.Stays.{stays_accepted}
use Rattle.board.specs.Board.{Board, Outcome, carried_if_any, reader_left, board_refusal, outcome}
use Rattle.reader_records.specs.declared.Reader.{Reader}
use Rattle.board.proofs.Refusals.{accepted, accepts}
use Rattle.board_in_step.specs.InStep.{spoken, boards}
use Rattle.board_in_step.specs.Measured.{LoopStep, line, measured, calls_in, Job, hears, events_in, doing, measuring, board_after, taken_in, replies_in, jobs_of, shown_in, InStepMeasured}
use Rattle.board_in_step.proofs.OneCall.{outcome_is, next_accepted, follows}
use Rattle.board_in_step.proofs.Hearing.{owing}

-- ---- a measurement leaves the board accepted

none_lent : (position : ℤ) (error : ℕ) (v : RegisteredWrite) → Memᴰ (lend v) (measurement position error ∷ []) → v.count ≤ 8
none_lent position error v (Memᴰ.head i) = let z : ◌≡◌ {A = ℕ} 0 1 = cc in absurd (omega arith)
none_lent position error v (Memᴰ.tail t) = elim t [ ]

measuring_accepted : (b : Board) → board_refusal b ≡ None → (position : ℤ) (error : ℕ) → board_refusal (measuring b position error) ≡ None
measuring_accepted b e position error =
    let a = accepted b e in
    accepts (measuring b position error) (record {
      held = a.held;
      state = stays_accepted.stays (state_of b.table b.registered) (measurement position error ∷ []) a.state (none_lent position error);
    })

-- ---- steps

done_first : (table : List ℕ) (w : RegisteredWrite) (a : Option Event) (ds : List Job)
    → owing (spoken (carried_if_any table w a).reply) (doing (carried_if_any table w a).table (carried_if_any table w a).registered ds)
    ≡ doing table w (map hears (listed a) ++ ds)
unfolding doing
done_first table w None ds = refl
done_first table w (Some e) ds = refl

each_once : (steps : List LoopStep) (b : Board) → board_refusal b ≡ None → shown_in b steps ≡ doing b.table b.registered (jobs_of b steps)
unfolding board_after replies_in jobs_of doing
each_once [] b e = refl
each_once (line c ∷ steps) b e =
    let next = (outcome b c).board in
    ap (owing (spoken (outcome b c).report.reply)) (each_once steps next (next_accepted b c e))
    ∙ subst (λ (o : Outcome). owing (spoken o.report.reply) (doing o.board.table o.board.registered (jobs_of next steps))
    ≡ doing b.table b.registered (map hears (listed o.report.event) ++ jobs_of next steps)) (sym (outcome_is b c e))
    (done_first b.table b.registered (call protocol2 (held_in b.reader) c).answer (jobs_of next steps))
each_once (measured position error ∷ steps) b e =
    each_once steps (measuring b position error) (measuring_accepted b e position error)

events_first : (a : Option Event) (ds : List Job) → events_in (map hears (listed a) ++ ds) ≡ listed a ++ events_in ds
events_first None ds = refl
events_first (Some e) ds = refl

-- what a board hears is the model's, whatever stands in its table
heard_by_lem : (b : Board) → board_refusal b ≡ None → (cs : List Call) → given boards b cs ≡ given (model protocol2) (held_in b.reader) cs
heard_by_lem b e cs =
    follows_given protocol2 boards (λ b. board_refusal b ≡ None) (λ b. held_in b.reader) follows b (held_in b.reader) cs e refl

same_heard : (steps : List LoopStep) (b : Board) → board_refusal b ≡ None → events_in (jobs_of b steps) ≡ given boards b (calls_in steps)
unfolding jobs_of given
same_heard [] b e = refl
same_heard (line c ∷ steps) b e =
    events_first (outcome b c).report.event (jobs_of (outcome b c).board steps)
    ∙ ap (λ (l : List Event). listed (outcome b c).report.event ++ l) (same_heard steps (outcome b c).board (next_accepted b c e))
same_heard (measured position error ∷ steps) b e =
    let m = measuring b position error in
    let k = measuring_accepted b e position error in
    same_heard steps m k ∙ heard_by_lem m k (calls_in steps) ∙ sym (heard_by_lem b e (calls_in steps))

taken_by : (b : Board) → board_refusal b ≡ None → (cs : List Call) → took boards b cs ≡ took (model protocol2) (held_in b.reader) cs
taken_by b e cs =
    follows_took protocol2 boards (λ b. board_refusal b ≡ None) (λ b. held_in b.reader) follows b (held_in b.reader) cs e refl

same_taken : (steps : List LoopStep) (b : Board) → board_refusal b ≡ None → taken_in b steps ≡ took boards b (calls_in steps)
unfolding taken_in took
same_taken [] b e = refl
same_taken (line c ∷ steps) b e =
    ap (λ (l : List ℕ). take (outcome b c).report.taken (chunk_of c) ++ l) (same_taken steps (outcome b c).board (next_accepted b c e))
same_taken (measured position error ∷ steps) b e =
    let m = measuring b position error in
    let k = measuring_accepted b e position error in
    same_taken steps m k ∙ taken_by m k (calls_in steps) ∙ sym (taken_by b e (calls_in steps))

readers_same : (cs : List Call) (a b : Board) → board_refusal a ≡ None → board_refusal b ≡ None → a.reader ≡ b.reader
    → (after boards a cs).reader ≡ (after boards b cs).reader
unfolding after
readers_same [] a b e f i = i
readers_same (c ∷ cs) a b e f i =
    readers_same cs (outcome a c).board (outcome b c).board (next_accepted a c e) (next_accepted b c f)
    (ap (λ (o : Outcome). o.board.reader) (outcome_is a c e) ∙ ap (λ (r : Reader). reader_left r c) i ∙ sym (ap (λ (o : Outcome). o.board.reader) (outcome_is b c f)))

same_reader : (steps : List LoopStep) (b : Board) → board_refusal b ≡ None → (board_after b steps).reader ≡ (after boards b (calls_in steps)).reader
unfolding board_after after
same_reader [] b e = refl
same_reader (line c ∷ steps) b e = same_reader steps (outcome b c).board (next_accepted b c e)
same_reader (measured position error ∷ steps) b e =
    let m = measuring b position error in
    let k = measuring_accepted b e position error in
    same_reader steps m k ∙ readers_same (calls_in steps) m b k e refl

never_refused : (steps : List LoopStep) (b : Board) → board_refusal b ≡ None → board_refusal (board_after b steps) ≡ None
unfolding board_after
never_refused [] b e = e
never_refused (line c ∷ steps) b e = never_refused steps (outcome b c).board (next_accepted b c e)
never_refused (measured position error ∷ steps) b e = never_refused steps (measuring b position error) (measuring_accepted b e position error)

pub in_step_measured : InStepMeasured
in_step_measured =
    record {
      each_once = λ b e steps. each_once steps b e;
      same_heard = λ b e steps. same_heard steps b e;
      same_taken = λ b e steps. same_taken steps b e;
      same_reader = λ b e steps. same_reader steps b e;
      never_refused = λ b e steps. never_refused steps b e;
    }
