-- What the measuring function answers.
use Rattle.std.specs.Prelude.{cond, ℕ, leb, Option, None, Some}

-- a length, where it is at most the bound
abbrev pub length_within : ℕ → ℕ → Option ℕ
length_within most n = cond (leb n most) (Some n) None
