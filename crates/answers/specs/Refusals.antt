-- The refusals: their numbers, which of them applies, and what a refused call leaves.
use Rattle.std.specs.Prelude.{None, Option, Some}
use Rattle.std.specs.Prelude.{Bool, cond, List, [], ◌∷◌, ℕ}
use Rattle.answers.specs.declared.Refusal.{Refusal}
use Rattle.answers.specs.declared.Refusal.TheVariants.{BadId, TooLong, BadStuffing, NoRoom, NotATable, BadTableId, BadRegistered, ShortReply, BadReader, BadLog, BadLogId, BadLogSize, WrongIndex, NotGoals, BadGoal}

-- the paper's numbers of our own [K5 N1-N9 N11 N15-N20]
abbrev pub number_of : Refusal → ℕ
number_of BadId = 11
number_of TooLong = 12
number_of BadStuffing = 14
number_of NoRoom = 13
number_of NotATable = 21
number_of BadTableId = 22
number_of BadRegistered = 23
number_of ShortReply = 24
number_of BadReader = 25
number_of BadLog = 31
number_of BadLogId = 32
number_of BadLogSize = 33
number_of WrongIndex = 34
number_of NotGoals = 41
number_of BadGoal = 42

-- tests in their order, each with what it answers where it fails: the first that fails decides [E8 N10 T6]
abbrev pub first_failing : {R : Type 0} → List (Bool × R) → Option R
first_failing [] = None
first_failing (t ∷ tests) = cond t.0 (first_failing tests) (Some t.1)

-- the first of two
abbrev pub or_else : {R : Type 0} → Option R → Option R → Option R
or_else None second = second
or_else (Some first) second = Some first

-- what a buffer holds: a refusal leaves it as it was [E8 N12]
abbrev pub unless_refused : {R : Type 0} → Option R → List ℕ → List ℕ → List ℕ
unless_refused None old new = new
unless_refused (Some refusal) old new = old
