-- What is left of the entries at an ID.
use Rattle.std.specs.Prelude.{List, ℕ, ℤ, drop}
use Rattle.plan.specs.Planner.{GoalEntry, entries_from}

-- the entries of the wanted IDs from `id` on
abbrev pub entries_at : List ℤ → ℕ → List GoalEntry
entries_at goals id = entries_from (drop id goals) id
