-- Our planner's plan: IDs rising, 203 devices to each packet but the last.
use Rattle.std.specs.Prelude.{Option, Result}
use Rattle.std.specs.Prelude.{List, [], ◌∷◌, ◌++◌, ℕ, zero, suc, leb, ℤ, pos, negsuc, length, take, drop}
use Rattle.answers.specs.Refusals.{first_failing, or_else, unless_refused}
use Rattle.answers.specs.Answers.{answered}
use Rattle.answers.specs.declared.Refusal.{Refusal}
use Rattle.answers.specs.declared.Refusal.TheVariants.{NoRoom}
use Rattle.lists.specs.Numbers.{bytes_of}
use Rattle.lists.specs.Write.{overwritten}
use Rattle.reading.specs.Promise.{joined}
use Rattle.packet_encoder.specs.Writing.{packet_of}
use Rattle.plan.specs.Goals.{goals_refusal}
use Rattle.plan.specs.Plan.{plan_head}

-- an ID and its goal
abbrev pub GoalEntry : Type 0
GoalEntry = ℕ × ℕ

-- the entries of the wanted IDs, rising from `id` on [W6]
unfoldable pub entries_from : List ℤ → ℕ → List GoalEntry
entries_from [] id = []
entries_from (pos n ∷ goals) id = (id, n) ∷ entries_from goals (suc id)
entries_from (negsuc n ∷ goals) id = entries_from goals (suc id)

-- the ID, then the four bytes of the goal [W6]
abbrev pub entry_bytes : GoalEntry → List ℕ
entry_bytes e = e.0 ∷ bytes_of 4 e.1

unfoldable pub list_bytes : List GoalEntry → List ℕ
list_bytes [] = []
list_bytes (e ∷ es) = entry_bytes e ++ list_bytes es

-- [W6]
abbrev pub goal_packet : List GoalEntry → List ℕ
goal_packet es = packet_of 254 (plan_head ++ list_bytes es)

-- 203 entries to each packet but the last; a packet has one at least, so that as many steps as there are entries are enough [W6]
unfoldable pub packets_from : ℕ → List GoalEntry → List (List ℕ)
packets_from zero es = []
packets_from (suc steps) [] = []
packets_from (suc steps) (e ∷ es) = goal_packet (take 203 (e ∷ es)) ∷ packets_from steps (drop 203 (e ∷ es))

abbrev pub packets_of : List GoalEntry → List (List ℕ)
packets_of es = packets_from (length es) es

-- [W6]
abbrev pub plan_packets : List ℤ → List (List ℕ)
plan_packets goals = packets_of (entries_from goals 0)

abbrev pub plan_of : List ℤ → List ℕ
plan_of goals = joined (plan_packets goals)

-- 41 and 42 by the goals, then no room [N4 W2]
unfoldable pub plan_refusal : List ℤ → List ℕ → Option Refusal
plan_refusal goals out = or_else (goals_refusal goals) (first_failing ((leb (length (plan_of goals)) (length out), NoRoom) ∷ []))

-- the plan's byte count, or a refusal [W7]
abbrev pub plan_answer : List ℤ → List ℕ → Result ℕ Refusal
plan_answer goals out = answered (plan_refusal goals out) (length (plan_of goals))

-- the bytes after the plan stay [N12 N14 W7]
abbrev pub plan_out : List ℤ → List ℕ → List ℕ
plan_out goals out = unless_refused (plan_refusal goals out) out (overwritten out (plan_of goals))
