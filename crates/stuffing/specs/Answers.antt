-- What the functions of this crate answer and leave.
use Rattle.std.specs.Prelude.{Option, None, Some, Result}
use Rattle.std.specs.Prelude.{cond, List, [], ◌∷◌, ℕ, leb, length}
use Rattle.answers.specs.Refusals.{first_failing, unless_refused}
use Rattle.answers.specs.Answers.{answered}
use Rattle.answers.specs.declared.Refusal.{Refusal}
use Rattle.answers.specs.declared.Refusal.TheVariants.{BadStuffing, NoRoom}
use Rattle.lists.specs.Write.{overwritten}
use Rattle.stuffing.specs.Stuffing.{well_stuffed, unstuff}

-- the stuffing test, with the count of the unstuffed bytes where it passes [K5]
abbrev pub checked : List ℕ → Option ℕ
checked body = cond (well_stuffed body) (Some (length (unstuff body))) None

-- removal into a buffer: the stuffing is tested before the room [N3 N4 S9-S11]
unfoldable pub removal_refusal : List ℕ → List ℕ → Option Refusal
removal_refusal body out =
    first_failing ((well_stuffed body, BadStuffing)
    ∷ (leb (length (unstuff body)) (length out), NoRoom)
    ∷ [])

-- [S8]
abbrev pub removal_answer : List ℕ → List ℕ → Result ℕ Refusal
removal_answer body out = answered (removal_refusal body out) (length (unstuff body))

-- the bytes after the result stay [S8-S10]
abbrev pub removal_out : List ℕ → List ℕ → List ℕ
removal_out body out = unless_refused (removal_refusal body out) out (overwritten out (unstuff body))
