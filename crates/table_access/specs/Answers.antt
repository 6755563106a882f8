-- What the functions of this crate answer and leave.
use Rattle.std.specs.Prelude.{List, ℕ, ℤ, take, drop, replicate}
use Rattle.answers.specs.Refusals.{unless_refused}
use Rattle.lists.specs.Write.{padded}
use Rattle.table_rules.specs.Rules.{stored, read_rule, write_rule}
use Rattle.table_rules.specs.Outcomes.{in_table, on_table}
use Rattle.table_access.specs.Fresh.{fresh_table, measured}

-- [T4]
abbrev pub fresh_out : List ℕ → List ℕ
fresh_out table = on_table table fresh_table

-- [T5]
abbrev pub measure_out : List ℕ → ℤ → ℕ → List ℕ
measure_out table position error = on_table table (measured table position error)

-- the bytes that were read, and 0 after them; all 0 beside a refusal [T17]
abbrev pub read_bytes : List ℕ → ℕ → ℕ → List ℕ
read_bytes table address n =
    unless_refused (in_table table (read_rule address n)) (replicate 8 0) (padded 8 (take n (drop address table)))

-- a refused write leaves every byte [K9 T12 T13]
abbrev pub write_out : List ℕ → ℕ → List ℕ → List ℕ
write_out table address bytes = unless_refused (in_table table (write_rule table address bytes)) table (stored table address bytes)
