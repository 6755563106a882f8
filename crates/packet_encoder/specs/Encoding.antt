-- What the encoder answers and leaves. The body is the instruction byte followed by the parameters.
use Rattle.std.specs.Prelude.{Option, Result}
use Rattle.std.specs.Prelude.{List, [], ◌∷◌, ℕ, ◌+◌, leb, length}
use Rattle.answers.specs.Refusals.{first_failing, unless_refused}
use Rattle.answers.specs.Answers.{answered}
use Rattle.answers.specs.declared.Refusal.{Refusal}
use Rattle.answers.specs.declared.Refusal.TheVariants.{BadId, TooLong, NoRoom}
use Rattle.lists.specs.Write.{placed}
use Rattle.stuffing.specs.Stuffing.{stuff}
use Rattle.packet_front.specs.Front.{good_id}
use Rattle.packet_encoder.specs.Writing.{packet_of}

-- the first refusal that applies: the ID, then a length field that would pass 1,024, then no room from `at` on
-- [E5-E8 N1 N2 N4 N10 P5]
unfoldable pub encode_refusal : ℕ → List ℕ → List ℕ → ℕ → Option Refusal
encode_refusal id body out at =
    first_failing ((good_id id, BadId)
    ∷ (leb (length (stuff body) + 2) 1024, TooLong)
    ∷ (leb (at + length (packet_of id body)) (length out), NoRoom)
    ∷ [])

-- [E1 E3]
abbrev pub encode_answer : ℕ → List ℕ → List ℕ → ℕ → Result ℕ Refusal
encode_answer id body out at = answered (encode_refusal id body out at) (length (packet_of id body))

-- the bytes before `at` and after the packet stay [E2 E4 E8 E9]
abbrev pub encode_out : ℕ → List ℕ → List ℕ → ℕ → List ℕ
encode_out id body out at = unless_refused (encode_refusal id body out at) out (placed out at (packet_of id body))
