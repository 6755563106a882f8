-- How far the test has come: which IDs have stood, and what a packet adds.
use Rattle.std.specs.Prelude.{◌≡◌, Bool, true, false, not, cond, ◌&&◌, List, [], ◌++◌, ℕ, ◌<◌, eqb, ℤ, pos, negsuc, length, take, drop, get_or}
use Rattle.plan.specs.Goals.{unwanted, goal_of, wanted}
use Rattle.plan.specs.Plan.{plan_head, goal_found, params_of, GoalWrite}

-- an entry with the number u may stand, where the goal is g and stood says whether the ID has stood before: the number is the goal,
-- and it has not
abbrev pub fits : ℤ → Bool → ℕ → Bool
fits (pos n) stood u = not stood && eqb u n
fits (negsuc n) stood u = false

-- what has stood of an ID so far: all that is wanted, or nothing
abbrev pub past_by : ℤ → Bool → List ℕ
past_by g stood = cond stood (goal_of g) []

abbrev pub past : List ℤ → List Bool → ℕ → List ℕ
past goals stood id = past_by (get_or goals id unwanted) (get_or stood id false)

-- some device finds a goal in the parameters
abbrev pub SomeFound : List ℕ → Type 0
SomeFound params = (id : ℕ) × (id < 253) × (0 < length (goal_found id params))

module _ (goals : List ℤ) (old : List Bool) where
  -- the IDs that find a goal in the parameters have been marked
  pub record Marked (params : List ℕ) (new : List Bool) : Type 0 where
    pub sized : length new ≡ 253
    pub some_id : SomeFound params
    pub as_found : (id : ℕ) → id < 253 → past goals new id ≡ past goals old id ++ goal_found id params

  -- whatever follows, some ID stands twice, with another goal or unwanted
  abbrev pub Clash : List ℕ → Type 0
  Clash params = (id : ℕ) × (id < 253) × ((more : List ℕ) → ¬ (past goals old id ++ (goal_found id params ++ more) ≡ wanted goals id))

  -- no ID finds a goal, or one clashes
  abbrev pub Unfit : List ℕ → Type 0
  Unfit params = SomeFound params → Clash params

  abbrev pub MarkSays : List ℕ → List Bool → Bool → Type 0
  MarkSays params new true = Marked params new
  MarkSays params new false = Unfit params

  abbrev pub BodySays : List ℕ → List Bool → Bool → Type 0
  BodySays body new true = (take 5 body ≡ plan_head) × Marked (drop 1 body) new
  BodySays body new false = take 5 body ≡ plan_head → Unfit (drop 1 body)

  abbrev pub PacketSays : List ℕ → List Bool → Bool → Type 0
  PacketSays w new true = GoalWrite w × Marked (params_of w) new
  PacketSays w new false = GoalWrite w → Clash (params_of w)
