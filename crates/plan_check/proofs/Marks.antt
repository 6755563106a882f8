-- The walk over the entries of one packet.
use Rattle.std.specs.Prelude.{None, Option, Some}
use mathlib.Core.Path.{◌≡◌, refl, sym, ap, subst, ◌∙◌}
use mathlib.Core.Bool.{Bool, true, false, cond}
use mathlib.Core.List.{List, [], ◌∷◌, ◌++◌, append-nil}
use Prim.Native.Nat.{ℕ, ◌+◌, ◌<◌, ◌≤◌}
use native.Mathlib.Omega.{arith}
use lib.Dec.{eqb}
use lib.IntN.{ℤ, pos}
use lib.ListN.{length, get_or, set, length-set}
use lib.Seq.{get_or-set_same, get_or-set_other}
use borrow.Author.Tests.{eqb-true, eqb-false}
use Rattle.lists.specs.Numbers.{number_at}
use Rattle.device_parameters.specs.Entries.{search, entry_at}
use Rattle.device_parameters.specs.Parameters.{word_at, plain, sync_search}
use Rattle.device_parameters.specs.declared.OwnEntry.{OwnEntry}
use Rattle.device_parameters.proofs.Searching.{past_end}
use Rattle.plan.proofs.Lists.{list_good, any_found, Walk, walk_start, entry_good_lem, found_next, walk_next, found_here, walk_end}
use Rattle.plan.specs.Goals.{unwanted}
use Rattle.plan.specs.Plan.{goal_at, goal_found}
use Rattle.plan.proofs.Wanted.{goal_there}
use Rattle.plan_check.specs.Checking.{fits, past_by, past, SomeFound, Marked, Unfit}
use Rattle.plan_check.proofs.Steps.{completes, clashes}

module _ (params : List ℕ) where
  -- ---- a list in which some device finds a goal

  pub goal_search : (id : ℕ) → eqb (word_at params 2) 0 ≡ false → goal_found id params ≡ goal_at params (search (plain 5) id params 4)
  goal_search id n = rw n

  has_length : SomeFound params → eqb (word_at params 2) 0 ≡ false
  has_length some = by_length (eqb (word_at params 2) 0) refl
    where
      by_length : (b : Bool) → eqb (word_at params 2) 0 ≡ b → b ≡ false
      by_length false e = refl
      by_length true e =
          let n : goal_found some.0 params ≡ [] = rw e refl in
          absurd (omega (arith, some.2, ap length n))

  list_good_lem : SomeFound params → list_good (plain 5) params (length params) 4 [] ≡ true
  list_good_lem some = by_found (search (plain 5) some.0 params 4) refl
    where
      by_found : (f : Option OwnEntry) → search (plain 5) some.0 params 4 ≡ f → list_good (plain 5) params (length params) 4 [] ≡ true
      by_found (Some entry) e = any_found (plain 5) params 4 some.0 entry.slot entry.offset e
      by_found None e =
          let n : goal_found some.0 params ≡ [] = goal_search some.0 (has_length some) ∙ ap (goal_at params) e in
          absurd (omega (arith, some.2, ap length n))

  walking : SomeFound params → Walk (plain 5) params 4 4 (λ own. None)
  walking some = walk_start (plain 5) params 4 (list_good_lem some)

  -- the device of the first entry finds it
  pub first_found : SomeFound params → 4 < length params → (slot : ℕ) × (sync_search 5 (get_or params 4 0) params ≡ entry_at slot 4)
  first_found some h =
      (length (walking some).passed, rw (has_length some) (found_here (plain 5) params 4 4 (λ own. None) (walking some) h))

  -- ---- no device finds any

  pub none_in_short : length params ≤ 4 → ¬ SomeFound params
  none_in_short h some = absurd (omega (arith, some.2, ap length n))
    where
      n : goal_found some.0 params ≡ []
      n = goal_search some.0 (has_length some) ∙ ap (goal_at params) (past_end (plain 5) some.0 params 4 h)

  pub none_found : 4 < length params → sync_search 5 (get_or params 4 0) params ≡ None → ¬ SomeFound params
  none_found h e some = let f = (first_found some h).1 in let z : ◌≡◌ {A = ℕ} 0 1 = cc in absurd (omega arith)

  -- and where one does, it is that of the first entry
  pub some_found : (slot at : ℕ) → 4 < length params → sync_search 5 (get_or params 4 0) params ≡ entry_at slot at → SomeFound params
  some_found slot at h e =
      let n : goal_found (get_or params 4 0) params ≡ number_at params (at + 1) 4 ∷ [] = ap (goal_at params) e in
      (get_or params 4 0, known, omega (arith, ap length n))
    where
      by_length : (b : Bool) → cond b None (search (plain 5) (get_or params 4 0) params 4) ≡ entry_at slot at
          → search (plain 5) (get_or params 4 0) params 4 ≡ entry_at slot at
      by_length true e = let z : ◌≡◌ {A = ℕ} 0 1 = cc in absurd (omega arith)
      by_length false e = e

      known : get_or params 4 0 < 253
      known =
          let g = any_found (plain 5) params 4 (get_or params 4 0) slot at (by_length (eqb (word_at params 2) 0) e) in
          let k = (entry_good_lem (plain 5) params 4 4 (λ own. None) (walk_start (plain 5) params 4 g) h).known in
          omega arith

-- ---- the walk

module _ (goals : List ℤ) (params : List ℕ) (old : List Bool) where
  pub record Marking (stood : List Bool) (at : ℕ) : Type 0 where
    pub found : ℕ → Option OwnEntry
    pub walk : Walk (plain 5) params 4 at found
    pub long : length stood ≡ 253
    pub so_far : (id : ℕ) → past goals stood id ≡ past goals old id ++ goal_at params (found id)

  module _ (some : SomeFound params) where
    pub marking_start : length old ≡ 253 → Marking old 4
    marking_start l = record { found = λ own. None; walk = walking params some; long = l; so_far = λ id. sym (append-nil (past goals old id)) }

    module _ (stood : List Bool) (at : ℕ) (m : Marking stood at) (h : at < length params) where
      abbrev id : ℕ
      id = get_or params at 0

      abbrev number : ℕ
      number = number_at params (at + 1) 4

      pub whole : at + 5 ≤ length params
      whole = (entry_good_lem (plain 5) params 4 at m.found m.walk h).fits

      pub known : id ≤ 252
      known = (entry_good_lem (plain 5) params 4 at m.found m.walk h).known

      -- nothing of it has stood in this packet
      same_past : past goals stood id ≡ past goals old id
      same_past =
          let n : m.found id ≡ None = m.walk.none_yet id (entry_good_lem (plain 5) params 4 at m.found m.walk h).new in
          m.so_far id ∙ rw n (append-nil (past goals old id))

      found_goal : goal_found id params ≡ number ∷ []
      found_goal = goal_search params id (has_length params some) ∙ ap (goal_at params) (found_here (plain 5) params 4 at m.found m.walk h)

      -- the test of the code
      module _ (sized : length goals ≡ 253) (b : Bool) (e : b ≡ fits (get_or goals id (pos 0)) (get_or stood id false) number) where
        stated : fits (get_or goals id unwanted) (get_or stood id false) number ≡ b
        stated = let k = known in sym (e ∙ ap (λ (g : ℤ). fits g (get_or stood id false) number) (goal_there goals id (pos 0) unwanted (omega arith)))

        pub marking_other : b ≡ false → Unfit goals old params
        marking_other f = λ _. (
          id,
          let k = known in omega arith,
          λ more d. clashes (get_or goals id unwanted) (get_or stood id false) number more (stated ∙ f)
              (ap (λ (l : List ℕ). l ++ (number ∷ more)) same_past ∙ ap (λ (l : List ℕ). past goals old id ++ (l ++ more)) (sym found_goal) ∙ d),
        )

        pub marking_new : b ≡ true → Marking (set stood id true) (at + 5)
        marking_new t =
            let l = m.long in
            record {
              found = found_next (plain 5) params 4 at m.found m.walk h;
              walk = walk_next (plain 5) params 4 at m.found m.walk h;
              long = simp length-set l;
              so_far = λ own. by_id own (eqb id own) refl;
            }
          where
            by_id : (own : ℕ) (x : Bool) → eqb id own ≡ x
                → past goals (set stood id true) own ≡ past goals old own ++ goal_at params (cond x (entry_at (length m.walk.passed) at) (m.found own))
            by_id own false i =
                ap (past_by (get_or goals own unwanted)) (get_or-set_other stood id own true false (λ q. eqb-false id own i (sym q))) ∙ m.so_far own
            by_id own true i =
                let k = known in
                let l = m.long in
                subst (λ (x : ℕ). past goals (set stood id true) x ≡ past goals old x ++ (number ∷ [])) (eqb-true id own i)
                (ap (past_by (get_or goals id unwanted)) (get_or-set_same stood id true false (omega arith))
                ∙ sym (completes (get_or goals id unwanted) (get_or stood id false) number (stated ∙ t))
                ∙ ap (λ (l : List ℕ). l ++ (number ∷ [])) same_past)

    pub marking_end : (stood : List Bool) (at : ℕ) → Marking stood at → length params ≤ at → Marked goals old params stood
    marking_end stood at m h =
        record {
          sized = m.long;
          some_id = some;
          as_found = λ id l.
              m.so_far id
              ∙ ap (λ (l : List ℕ). past goals old id ++ l)
              (sym (goal_search params id (has_length params some) ∙ ap (goal_at params) (walk_end (plain 5) params 4 at m.found m.walk h id)));
        }
