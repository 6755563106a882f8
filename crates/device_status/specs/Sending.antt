-- What the function that sends a reply answers and leaves.
use Rattle.std.specs.Prelude.{Option, Result}
use Rattle.std.specs.Prelude.{List, [], ◌∷◌, ℕ, leb, length}
use Rattle.answers.specs.Refusals.{first_failing, unless_refused}
use Rattle.answers.specs.Answers.{answered}
use Rattle.answers.specs.declared.Refusal.{Refusal}
use Rattle.answers.specs.declared.Refusal.TheVariants.{BadId, TooLong, ShortReply}
use Rattle.lists.specs.Write.{overwritten}
use Rattle.device_status.specs.Status.{reply_bytes}
use Rattle.device_status.specs.declared.Reply.{Reply}

-- no device has the ID, more than 8 bytes of data, a buffer under 32 bytes; silence is refused as a status is [D52 N1 N2 N8]
unfoldable pub status_refusal : Reply → List ℕ → Option Refusal
status_refusal r out = first_failing ((leb r.id 252, BadId) ∷ (leb r.count 8, TooLong) ∷ (leb 32 (length out), ShortReply) ∷ [])

-- [D35]
abbrev pub status_answer : Reply → List ℕ → Result ℕ Refusal
status_answer r out = answered (status_refusal r out) (length (reply_bytes r))

-- the bytes after the status stay, and so do all of them when silent [D36 D37]
abbrev pub status_out : Reply → List ℕ → List ℕ
status_out r out = unless_refused (status_refusal r out) out (overwritten out (reply_bytes r))
