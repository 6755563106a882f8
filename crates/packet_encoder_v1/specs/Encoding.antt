-- What the encoder answers and leaves, by the IDs that are allowed. The body is the instruction or error byte followed by the
-- parameters.
use Rattle.std.specs.Prelude.{Option, Result}
use Rattle.std.specs.Prelude.{Bool, List, [], ◌∷◌, ℕ, ◌+◌, leb, length}
use Rattle.answers.specs.Refusals.{first_failing, unless_refused}
use Rattle.answers.specs.Answers.{answered}
use Rattle.answers.specs.declared.Refusal.{Refusal}
use Rattle.answers.specs.declared.Refusal.TheVariants.{BadId, TooLong, NoRoom}
use Rattle.lists.specs.Write.{placed}
use Rattle.packet_encoder_v1.specs.Writing.{packet_of}

module _ (good : ℕ → Bool) where
  -- the first refusal that applies: the ID, then a length that would pass 255, then no room from `at` on [N1 N2 N4 N10 O9 O10]
  unfoldable pub encode_refusal : ℕ → List ℕ → List ℕ → ℕ → Option Refusal
  encode_refusal id body out at =
      first_failing ((good id, BadId)
      ∷ (leb (length body + 1) 255, TooLong)
      ∷ (leb (at + length (packet_of id body)) (length out), NoRoom)
      ∷ [])

  -- [O9]
  abbrev pub encode_answer : ℕ → List ℕ → List ℕ → ℕ → Result ℕ Refusal
  encode_answer id body out at = answered (encode_refusal id body out at) (length (packet_of id body))

  -- the bytes before `at` and after the packet stay [N12 N14 O9 O10]
  abbrev pub encode_out : ℕ → List ℕ → List ℕ → ℕ → List ℕ
  encode_out id body out at = unless_refused (encode_refusal id body out at) out (placed out at (packet_of id body))
