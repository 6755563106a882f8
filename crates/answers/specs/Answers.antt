-- What a function that may refuse answers: a value or a refusal, and either as C gets it.
use Rattle.std.specs.Prelude.{Err, None, Ok, Option, Result, Some}
use Rattle.std.specs.Prelude.{ℕ, ◌-◌, ◌^◌, min, ℤ, pos, neg_ℤ}
use Rattle.answers.specs.Refusals.{number_of}
use Rattle.answers.specs.declared.Refusal.{Refusal}

-- by the refusal, if there is one [N11]
abbrev pub answered : {A : Type 0} → Option Refusal → A → Result A Refusal
answered None value = Ok value
answered (Some refusal) value = Err refusal

-- one signed 64-bit number: the count, or minus the refusal's number; a count that no such number holds is the largest of them (no
-- buffer of a real machine is that long) [G5 N11]
abbrev pub exported : Result ℕ Refusal → ℤ
exported (Ok n) = pos (min n (2 ^ 63 - 1))
exported (Err refusal) = neg_ℤ (pos (number_of refusal))

-- of a call that has nothing to count: 0 where it is done [G5 N11]
abbrev pub exported_done : Result (Unit {0}) Refusal → ℤ
exported_done (Ok _) = pos 0
exported_done (Err refusal) = neg_ℤ (pos (number_of refusal))
