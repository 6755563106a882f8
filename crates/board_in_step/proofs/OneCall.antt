-- One call on a board that is not refused: it goes by the packet rules, and leaves a board that is not refused.
use Rattle.std.specs.Prelude.{None, Option, Some}
use mathlib.Core.Path.{◌≡◌, refl, ap, ◌∙◌}
use mathlib.Core.List.{List, [], ◌∷◌}
use Rattle.answers.specs.declared.Refusal.{Refusal}
use Rattle.reading.specs.Calls.{Call, call}
use Rattle.reading.specs.Lists.{after, Follows}
use Rattle.packet.specs.Verdict.{protocol2}
use Rattle.reader_records.specs.Records.{held_in, left_by}
use Rattle.reader_records.proofs.Records.{every_protocol}
use Rattle.board.proofs.Refusals.{accepted, accepts, any_accepted}
use Rattle.board.proofs.Left.{left_held, left_count, left_clean, left_reader}
use Rattle.board.specs.Board.{Board, Outcome, board_refusal, outcome_unless, outcome}
use Rattle.board_in_step.specs.InStep.{boards, Clean}

-- ---- the call

pub outcome_is : (b : Board) (c : Call) → board_refusal b ≡ None → outcome b c ≡ outcome_unless None b c
unfolding outcome
outcome_is b c e = rw e

pub next_accepted : (b : Board) (c : Call) → board_refusal b ≡ None → board_refusal (outcome b c).board ≡ None
next_accepted b c e =
    let a = accepted b e in
    rw (outcome_is b c e)
    (accepts (outcome_unless None b c).board (record {
      held = left_count b.reader c a.held;
      state = any_accepted b.table b.registered a.state (call protocol2 (held_in b.reader) c).answer;
    }))

-- a board keeps to the packet rules
pub follows : Follows protocol2 boards (λ b. board_refusal b ≡ None) (λ b. held_in b.reader)
follows =
    record {
      fresh = λ b f. (f.1, (every_protocol.two.follows.fresh b.reader f.0).1);
      same_taken = λ b c e. ap (λ (o : Outcome). o.report.taken) (outcome_is b c e);
      same_answer_lem = λ b c e. ap (λ (o : Outcome). o.report.event) (outcome_is b c e);
      same_next = λ b c e. (
        next_accepted b c e,
        ap (λ (o : Outcome). held_in o.board.reader) (outcome_is b c e) ∙ left_held b.reader c,
      );
    }

-- ---- 0 follows the held bytes

next_clean : (b : Board) (c : Call) → Clean b → Clean (outcome b c).board
unfolding outcome
next_clean b c clean = by (board_refusal b) refl
  where
    by : (s : Option Refusal) → board_refusal b ≡ s → Clean (outcome_unless s b c).board
    by None e = left_clean b.reader c (accepted b e).held clean
    by (Some number) e = clean

pub stays_clean : (cs : List Call) (b : Board) → Clean b → Clean (after boards b cs)
unfolding after
stays_clean [] b clean = clean
stays_clean (c ∷ cs) b clean = stays_clean cs (outcome b c).board (next_clean b c clean)

pub as_a_reader : (b : Board) → Clean b → board_refusal b ≡ None → (c : Call) → (outcome b c).board.reader ≡ left_by b.reader c
as_a_reader b clean e c =
    ap (λ (o : Outcome). o.board.reader) (outcome_is b c e) ∙ left_reader b.reader c (accepted b e).held clean
