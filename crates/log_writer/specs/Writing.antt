-- Writing a log of segments, whose bytes are given joined together with their lengths.
use Rattle.std.specs.Prelude.{None, Option, Result}
use Rattle.std.specs.Prelude.{◌≡◌, List, [], ◌∷◌, ℕ, ◌+◌, leb, eqb, length, take, drop}
use Rattle.answers.specs.Refusals.{first_failing, unless_refused}
use Rattle.answers.specs.Answers.{answered}
use Rattle.answers.specs.declared.Refusal.{Refusal}
use Rattle.answers.specs.declared.Refusal.TheVariants.{BadLog, NoRoom}
use Rattle.lists.specs.Write.{overwritten}
use Rattle.log_layout.specs.Log.{LogEntry, log_of, longest_file, Sound}

-- [I11]
unfoldable pub sum : List ℕ → ℕ
sum [] = 0
sum (n ∷ ns) = n + sum ns

-- the segments, by their lengths [I11]
unfoldable pub cut : List ℕ → List ℕ → List (List ℕ)
cut [] bytes = []
cut (n ∷ ns) bytes = take n bytes ∷ cut ns (drop n bytes)

-- their directory, by the lengths alone [I3 I4]
unfoldable pub directory_by : ℕ → List ℕ → List LogEntry
directory_by start [] = []
directory_by start (n ∷ ns) = (start, n) ∷ directory_by (start + n) ns

abbrev pub written : List ℕ → List ℕ → List ℕ
written bytes lengths = log_of (cut lengths bytes)

-- lengths that do not add up to the bytes given, a file that would be too long, no room: in this order [I12 I13 N4 N10 N15]
unfoldable pub write_refusal : List ℕ → List ℕ → List ℕ → Option Refusal
write_refusal bytes lengths out =
    first_failing
    ((eqb (sum lengths) (length bytes), BadLog)
    ∷ (leb (length (written bytes lengths)) longest_file, BadLog)
    ∷ (leb (length (written bytes lengths)) (length out), NoRoom)
    ∷ [])

-- [I11-I13]
abbrev pub write_answer : List ℕ → List ℕ → List ℕ → Result ℕ Refusal
write_answer bytes lengths out = answered (write_refusal bytes lengths out) (length (written bytes lengths))

-- [I11 I14]
abbrev pub write_out : List ℕ → List ℕ → List ℕ → List ℕ
write_out bytes lengths out = unless_refused (write_refusal bytes lengths out) out (overwritten out (written bytes lengths))

-- what is written is sound [I15]
abbrev pub WritesSound : Type 0
WritesSound =
    (bytes lengths out : List ℕ) → write_refusal bytes lengths out ≡ None
    → Sound (take (length (written bytes lengths)) (write_out bytes lengths out))
