-- What a caller learns from an answer, and from tests of which none fails.
use Rattle.std.specs.Prelude.{Err, None, Ok, Option, Some}
use mathlib.Core.Path.{◌≡◌, refl, sym, ap, ◌∙◌}
use mathlib.Core.Bool.{Bool, true, false, cond}
use mathlib.Core.List.{List, [], ◌∷◌}
use Prim.Native.Nat.{ℕ}
use lib.Dec.{eqb}
use Rattle.answers.specs.Refusals.{number_of}
use Rattle.answers.specs.Answers.{answered}
use Rattle.answers.specs.declared.Refusal.{Refusal}
use Rattle.answers.specs.declared.Refusal.TheVariants.{BadId, TooLong, BadStuffing, NoRoom, NotATable, BadTableId, BadRegistered, ShortReply, BadReader, BadLog, BadLogId, BadLogSize, WrongIndex, NotGoals, BadGoal}

pub counted : {A : Type 0} (o : Option Refusal) (k n : A) → answered o k ≡ Ok n → (o ≡ None) × (k ≡ n)
counted None k n e = (refl, cc)
counted (Some refusal) k n e = absurd cc

pub refused : {A : Type 0} (o : Option Refusal) (k : A) (refusal : Refusal) → answered o k ≡ Err refusal → o ≡ Some refusal
refused None k refusal e = absurd cc
refused (Some other) k refusal e = cc

pub passed : {R : Type 0} (b : Bool) (x : R) (rest : Option R) → cond b rest (Some x) ≡ None → (b ≡ true) × (rest ≡ None)
passed true x rest e = (refl, e)
passed false x rest e = absurd cc

-- ---- no two refusals have the same number

abbrev numbered : List (ℕ × Refusal)
numbered =
    (11, BadId)
    ∷ (12, TooLong)
    ∷ (14, BadStuffing)
    ∷ (13, NoRoom)
    ∷ (21, NotATable)
    ∷ (22, BadTableId)
    ∷ (23, BadRegistered)
    ∷ (24, ShortReply)
    ∷ (25, BadReader)
    ∷ (31, BadLog)
    ∷ (32, BadLogId)
    ∷ (33, BadLogSize)
    ∷ (34, WrongIndex)
    ∷ (41, NotGoals)
    ∷ (42, BadGoal)
    ∷ []

abbrev found : ℕ → List (ℕ × Refusal) → Refusal
found n [] = BadId
found n (x ∷ xs) = cond (eqb n x.0) x.1 (found n xs)

by_number : (refusal : Refusal) → found (number_of refusal) numbered ≡ refusal
by_number BadId = refl
by_number TooLong = refl
by_number BadStuffing = refl
by_number NoRoom = refl
by_number NotATable = refl
by_number BadTableId = refl
by_number BadRegistered = refl
by_number ShortReply = refl
by_number BadReader = refl
by_number BadLog = refl
by_number BadLogId = refl
by_number BadLogSize = refl
by_number WrongIndex = refl
by_number NotGoals = refl
by_number BadGoal = refl

pub same_number : (r s : Refusal) → number_of r ≡ number_of s → r ≡ s
same_number r s e = sym (by_number r) ∙ ap (λ (n : ℕ). found n numbered) e ∙ by_number s
