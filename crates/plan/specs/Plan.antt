-- What a plan of goals is: Sync Writes end to end, in which every wanted ID stands once with its goal, and no other.
use Rattle.std.specs.Prelude.{None, Option, Some}
use Rattle.std.specs.Prelude.{◌≡◌, ℕ, ◌+◌, ◌<◌, ℤ, length, take, drop}
use mathlib.Core.List.{List, [], ◌∷◌, ◌++◌, Memᴰ}
use Rattle.lists.specs.Numbers.{number_at}
use Rattle.stuffing.specs.Stuffing.{unstuff}
use Rattle.reading.specs.Promise.{joined}
use Rattle.packet_front.specs.Front.{id_of}
use Rattle.packet.specs.Packet.{body_of, WellFormed}
use Rattle.device_parameters.specs.Parameters.{sync_search}
use Rattle.device_parameters.specs.declared.OwnEntry.{OwnEntry}
use Rattle.plan.specs.Goals.{wanted}

-- Sync Write, address 116, length 4 [W3]
abbrev pub plan_head : List ℕ
plan_head = 0x83 ∷ 116 ∷ 0 ∷ 4 ∷ 0 ∷ []

-- the four bytes behind the ID of the entry that was found; a goal is never negative, so that they are read as a plain number
abbrev pub goal_at : List ℕ → Option OwnEntry → List ℕ
goal_at params (Some entry) = number_at params (entry.offset + 1) 4 ∷ []
goal_at params None = []

-- the goal that a device finds in the parameters, by its own search: none in a list that it would not carry out [W4]
abbrev pub goal_found : ℕ → List ℕ → List ℕ
goal_found id params = goal_at params (sync_search 5 id params)

abbrev pub params_of : List ℕ → List ℕ
params_of w = drop 1 (unstuff (body_of w))

-- a Sync Write of goals to all devices, with a list that is not empty and that they would carry out: some device finds its goal
-- [W3 W4]
pub record GoalWrite (w : List ℕ) : Type 0 where
  pub well : WellFormed w
  pub to_all : id_of w ≡ 254
  pub head : take 5 (unstuff (body_of w)) ≡ plan_head
  pub carried_out_lem : (id : ℕ) × (id < 253) × (0 < length (goal_found id (params_of w)))

-- the goals that the packets have for an ID, one after the other [W5]
unfoldable pub goals_in : ℕ → List (List ℕ) → List ℕ
goals_in id [] = []
goals_in id (w ∷ ws) = goal_found id (params_of w) ++ goals_in id ws

-- [W3-W5]
pub record Plan (goals : List ℤ) (bytes : List ℕ) : Type 0 where
  pub packets : List (List ℕ)
  pub end_to_end : joined packets ≡ bytes
  pub each : (w : List ℕ) → Memᴰ w packets → GoalWrite w
  -- over all packets, a wanted ID has its goal once, and any other has none
  pub stands : (id : ℕ) → id < 253 → goals_in id packets ≡ wanted goals id
