-- The device call in two: the first carries out, and the second sends when the reply slot has come.
use Rattle.std.specs.Prelude.{Err, Result}
use Rattle.std.specs.Prelude.{None, Option, Some}
use Rattle.std.specs.Prelude.{◌≡◌, List, ℕ}
use Rattle.answers.specs.Refusals.{unless_refused}
use Rattle.answers.specs.declared.Refusal.{Refusal}
use Rattle.answers.specs.declared.Refusal.TheVariants.{ShortReply}
use Rattle.device_status.specs.Sending.{status_answer, status_out}
use Rattle.device.specs.Answers.{with_slot, state_refusal, carried_reply, carried_table, carried_registered, call_answer, call_table, call_registered, call_out}
use Rattle.device_instructions.specs.declared.RegisteredWrite.{RegisteredWrite}
use Rattle.device_status.specs.declared.Reply.{Reply}
use Rattle.device_dispatch.specs.declared.Heard.{Heard}
use Rattle.device.specs.declared.Sent.{Sent}

-- the second call straight after the first, unless that was refused: what both answer [D54]
abbrev pub answer_of_both : Option Refusal → Reply → List ℕ → Result Sent Refusal
answer_of_both None reply out = with_slot (status_answer reply out) reply.slot
answer_of_both (Some refusal) reply out = Err refusal

-- and the reply buffer [D54]
abbrev pub out_of_both : Option Refusal → Reply → List ℕ → List ℕ
out_of_both refusal reply out = unless_refused refusal out (status_out reply out)

module _ (table : List ℕ) (w : RegisteredWrite) (heard : Heard) (id : ℕ) (body out : List ℕ) where
  -- [D54]
  pub record SameAsOne : Type 0 where
    pub same_answer_lem : answer_of_both (state_refusal table w) (carried_reply table w heard id body) out ≡ call_answer table w heard id body out
    pub same_table : carried_table table w heard id body ≡ call_table table w heard id body out
    pub same_registered_lem : carried_registered table w heard id body ≡ call_registered table w heard id body out
    pub same_reply : out_of_both (state_refusal table w) (carried_reply table w heard id body) out ≡ call_out table w heard id body out

-- for every input where the one call does not give 24 [D54]
abbrev pub Split : Type 0
Split =
    (table : List ℕ) (w : RegisteredWrite) (heard : Heard) (id : ℕ) (body out : List ℕ)
    → ¬ (call_answer table w heard id body out ≡ Err ShortReply) → SameAsOne table w heard id body out
