-- Our plans are accepted: what a device finds in the planner's packets.
use Rattle.std.specs.Prelude.{None, Option}
use mathlib.Core.Path.{◌≡◌, refl, sym, ap, ap₂, subst, ◌∙◌}
use mathlib.Core.Bool.{Bool, true, false, cond}
use mathlib.Core.List.Memᴰ
use mathlib.Core.List.{List, [], ◌∷◌, ◌++◌, append_assoc, Memᴰ}
use mathlib.Core.Logic.{⊎_elim}
use Prim.Native.Nat.{ℕ, zero, suc, ◌+◌, ◌≤◌, ◌<◌}
use native.Mathlib.Omega.{arith}
use lib.Dec.{eqb}
use lib.IntN.{ℤ, pos, negsuc}
use lib.ListN.{length, take, drop, get_or, length-append, length-take, length-drop, take-append-drop}
use lib.Seq.{get_or-append-add, get_or-append_seam}
use borrow.Author.Tests.{le-leb, lt-leb, eq-eqb, ne_eqb, eqb-true}
use Rattle.lists.specs.Numbers.{number_at, bytes_of}
use Rattle.lists.proofs.Bools.{and_right}
use Rattle.lists.proofs.Numbers.{bytes_length, same_number}
use Rattle.stuffing.specs.Stuffing.{unstuff}
use Rattle.packet.specs.Packet.{body_of}
use Rattle.packet_encoder.proofs.RoundTrip.{round_trip}
use Rattle.device_parameters.specs.Entries.{occurs, entry_good, search_from, entry_at}
use Rattle.device_parameters.specs.Parameters.{plain}
use Rattle.device_parameters.specs.declared.OwnEntry.{OwnEntry}
use Rattle.plan.specs.Goals.{unwanted, goal_of, goal_within, goals_within, goals_refusal}
use Rattle.plan.specs.Plan.{plan_head, goal_at, goal_found, params_of, goals_in, GoalWrite, Plan}
use Rattle.plan.specs.Planner.{GoalEntry, entries_from, entry_bytes, list_bytes, goal_packet, packets_from, plan_of}
use Rattle.plan.proofs.Packets.{Rising, rising_take, rising_drop, entries_rise, list_length, body_length}
use Rattle.plan.proofs.Wanted.{goals_counted, goals_within_lem}

-- ---- the goals of an ID among entries

-- all of them
pub goals_of : ℕ → List GoalEntry → List ℕ
goals_of id [] = []
goals_of id (e ∷ es) = cond (eqb e.0 id) (e.1 ∷ []) [] ++ goals_of id es

-- the last one, or else d: as the search finds it
last_of : ℕ → List GoalEntry → List ℕ → List ℕ
last_of id [] d = d
last_of id (e ∷ es) d = last_of id es (cond (eqb e.0 id) (e.1 ∷ []) d)

-- entries that rise from above the ID have none for it
none_below : (id b : ℕ) (es : List GoalEntry) → id < b → Rising b es → goals_of id es ≡ []
unfolding goals_of
none_below id b [] h r = refl
none_below id b (e ∷ es) h r =
    rw (ne_eqb e.0 id (λ q. omega (arith, r.0))) (none_below id (suc e.0) es (omega (arith, r.0)) r.3)

last_below : (id b : ℕ) (es : List GoalEntry) (d : List ℕ) → id < b → Rising b es → last_of id es d ≡ d
unfolding last_of
last_below id b [] d h r = refl
last_below id b (e ∷ es) d h r =
    rw (ne_eqb e.0 id (λ q. omega (arith, r.0))) (last_below id (suc e.0) es d (omega (arith, r.0)) r.3)

-- entries that rise have one goal for an ID at most
last_is : (id b : ℕ) (es : List GoalEntry) → Rising b es → last_of id es [] ≡ goals_of id es
unfolding last_of goals_of
last_is id b [] r = refl
last_is id b (e ∷ es) r = by_id (eqb e.0 id) refl (last_is id (suc e.0) es r.3)
  where
    by_id : (x : Bool) → eqb e.0 id ≡ x → last_of id es [] ≡ goals_of id es → last_of id es (cond x (e.1 ∷ []) []) ≡ cond x (e.1 ∷ []) [] ++ goals_of id es
    by_id true q rest =
        let i = eqb-true e.0 id q in
        last_below id (suc e.0) es (e.1 ∷ []) (omega arith) r.3
        ∙ ap (λ (l : List ℕ). e.1 ∷ l) (sym (none_below id (suc e.0) es (omega arith) r.3))
    by_id false q rest = rest

-- the first has a goal
some_goal : (b : ℕ) (es : List GoalEntry) → Rising b es → 0 < length es → (id : ℕ) × (id < 253) × (0 < length (goals_of id es))
unfolding goals_of
some_goal b [] r h = absurd (omega arith)
some_goal b (e ∷ es) r h = (e.0, omega (arith, r.1), rw (eq-eqb e.0 e.0 refl) (omega arith))

goals_append : (id : ℕ) (es fs : List GoalEntry) → goals_of id (es ++ fs) ≡ goals_of id es ++ goals_of id fs
unfolding goals_of
goals_append id [] fs = refl
goals_append id (e ∷ es) fs =
    ap (λ (l : List ℕ). cond (eqb e.0 id) (e.1 ∷ []) [] ++ l) (goals_append id es fs)
    ∙ sym (append_assoc (cond (eqb e.0 id) (e.1 ∷ []) []) (goals_of id es) (goals_of id fs))

-- the entries of the goals have what is wanted
entries_goal : (goals : List ℤ) (b i : ℕ) → goals_within goals ≡ true → b + length goals ≤ 253
    → goals_of (b + i) (entries_from goals b) ≡ goal_of (get_or goals i unwanted)
unfolding entries_from goals_of goals_within
entries_goal [] b i w h = refl
entries_goal (pos n ∷ goals) b zero w h =
    let v = and_right (goal_within (pos n)) (goals_within goals) w in
    let e : b + 0 ≡ b = omega arith in
    subst (λ (x : ℕ). goals_of x (entries_from (pos n ∷ goals) b) ≡ n ∷ []) (sym e)
    (rw (eq-eqb b b refl) (ap (λ (l : List ℕ). n ∷ l) (none_below b (suc b) (entries_from goals (suc b)) (omega arith) (entries_rise goals (suc b) (omega arith) v))))
entries_goal (negsuc n ∷ goals) b zero w h =
    let v = and_right (goal_within (negsuc n)) (goals_within goals) w in
    let e : b + 0 ≡ b = omega arith in
    rw e (none_below b (suc b) (entries_from goals (suc b)) (omega arith) (entries_rise goals (suc b) (omega arith) v))
entries_goal (pos n ∷ goals) b (suc i) w h =
    let v = and_right (goal_within (pos n)) (goals_within goals) w in
    let e : b + suc i ≡ suc b + i = omega arith in
    rw (ne_eqb b (b + suc i) (λ q. omega arith))
    (subst (λ (x : ℕ). goals_of x (entries_from goals (suc b)) ≡ goal_of (get_or goals i unwanted)) (sym e) (entries_goal goals (suc b) i v (omega arith)))
entries_goal (negsuc n ∷ goals) b (suc i) w h =
    let v = and_right (goal_within (negsuc n)) (goals_within goals) w in
    let e : b + suc i ≡ suc b + i = omega arith in
    rw e (entries_goal goals (suc b) i v (omega arith))

-- ---- the search

-- what stands behind a list
behind : (pre l : List ℕ) (m : ℕ) → number_at (pre ++ l) (length pre + m) 4 ≡ number_at l m 4
behind pre l m =
    same_number 4 (pre ++ l) l (length pre + m) m
    (λ k h. let e : length pre + m + k ≡ length pre + (m + k) = omega arith in rw e (get_or-append-add pre l (m + k) 0))

-- a small number is that of its bytes
own_number : (id n : ℕ) (rest : List ℕ) → n ≤ 4095 → number_at (id ∷ (bytes_of 4 n ++ rest)) 1 4 ≡ n
unfolding number_at bytes_of
own_number id n rest h = omega arith

-- all that stood before has a lower ID
Passed : ℕ → List ℕ → Type 0
Passed b [] = Unit {0}
Passed b (x ∷ xs) = (x < b) × Passed b xs

passed_on : (a b : ℕ) (xs : List ℕ) → a ≤ b → Passed a xs → Passed b xs
unfolding Passed
passed_on a b [] h p = tt
passed_on a b (x ∷ xs) h p = (omega (arith, p.0), passed_on a b xs h p.1)

not_passed : (id b : ℕ) (xs : List ℕ) → b ≤ id → Passed b xs → occurs id xs ≡ false
unfolding Passed occurs
not_passed id b [] h p = refl
not_passed id b (x ∷ xs) h p = rw (ne_eqb id x (λ e. omega (arith, p.0))) (not_passed id b xs h p.1)

module _ (own : ℕ) (params : List ℕ) where
  abbrev search_on : ℕ → ℕ → List ℕ → Option OwnEntry → Option OwnEntry
  search_on steps at passed found = search_from (plain 5) own params steps at passed found

  ended : (steps at : ℕ) (passed : List ℕ) (found : Option OwnEntry) → length params ≤ at → search_on steps at passed found ≡ found
  unfolding search_from
  ended zero at passed found h = rw (le-leb (length params) at h)
  ended (suc steps) at passed found h = rw (le-leb (length params) at h)

  -- the next entry
  module _ (x : GoalEntry) (es : List GoalEntry) (pre passed : List ℕ) (b : ℕ) (e : params ≡ pre ++ (entry_bytes x ++ list_bytes es)) (r : Rising b (x ∷ es))
      (p : Passed b passed) where
    bytes : length params ≡ length pre + 5 + length (list_bytes es)
    bytes =
        omega (arith, ap length e, length-append pre (entry_bytes x ++ list_bytes es), length-append (entry_bytes x) (list_bytes es), bytes_length 4 x.1)

    first : get_or params (length pre) 0 ≡ x.0
    first = ap (λ (l : List ℕ). get_or l (length pre) 0) e ∙ get_or-append_seam pre x.0 (bytes_of 4 x.1 ++ list_bytes es) 0

    good : entry_good (plain 5) params (length pre) passed ≡ true
    good =
        let n = bytes in
        rw (first, le-leb (length pre + 5) (length params) (omega arith), le-leb x.0 252 r.1, not_passed x.0 b passed r.0 p)

    number : number_at params (length pre + 1) 4 ≡ x.1
    number =
        ap (λ (l : List ℕ). number_at l (length pre + 1) 4) e ∙ behind pre (entry_bytes x ++ list_bytes es) 1
        ∙ own_number x.0 x.1 (list_bytes es) r.2

    here : (y : Bool) (found : Option OwnEntry)
        → goal_at params (cond y (entry_at (length passed) (length pre)) found) ≡ cond y (x.1 ∷ []) (goal_at params found)
    here true found = ap (λ (n : ℕ). n ∷ []) number
    here false found = refl

    turn : (steps : ℕ) (found : Option OwnEntry) → search_on (suc steps) (length pre) passed found
        ≡ search_on steps (length (pre ++ entry_bytes x)) (x.0 ∷ passed) (cond (eqb x.0 own) (entry_at (length passed) (length pre)) found)
    unfolding search_from
    turn steps found =
        let n = bytes in
        let l : length pre + 5 ≡ length (pre ++ entry_bytes x) = omega (arith, length-append pre (entry_bytes x), bytes_length 4 x.1) in
        rw (lt-leb (length params) (length pre) (omega arith), good)
        (ap₂ (λ (i at : ℕ). search_on steps at (i ∷ passed) (cond (eqb i own) (entry_at (length passed) (length pre)) found)) first l)

  search_finds : (es : List GoalEntry) (pre : List ℕ) (steps b : ℕ) (passed : List ℕ) (found : Option OwnEntry)
      → params ≡ pre ++ list_bytes es → length es ≤ steps → Rising b es → Passed b passed
      → goal_at params (search_on steps (length pre) passed found) ≡ last_of own es (goal_at params found)
  unfolding last_of list_bytes Passed
  search_finds [] pre steps b passed found e h r p =
      ap (goal_at params) (ended steps (length pre) passed found (omega (arith, ap length e, length-append pre [])))
  search_finds (x ∷ es) pre zero b passed found e h r p = absurd (omega arith)
  search_finds (x ∷ es) pre (suc steps) b passed found e h r p =
      ap (goal_at params) (turn x es pre passed b e r p steps found)
      ∙ search_finds es (pre ++ entry_bytes x) steps (suc x.0) (x.0 ∷ passed) (cond (eqb x.0 own) (entry_at (length passed) (length pre)) found)
      (e ∙ sym (append_assoc pre (entry_bytes x) (list_bytes es))) (omega arith) r.3
      (omega arith, passed_on b (suc x.0) passed (omega (arith, r.0)) p)
      ∙ ap (last_of own es) (here x es pre passed b e r p (eqb x.0 own) found)

-- ---- the packets

module _ (b : ℕ) (es : List GoalEntry) (r : Rising b es) where
  body_is : unstuff (body_of (goal_packet es)) ≡ plan_head ++ list_bytes es
  body_is = round_trip.same_body 254 (plan_head ++ list_bytes es)

  -- what a device finds in a packet
  packet_goal : (id : ℕ) → goal_found id (params_of (goal_packet es)) ≡ goals_of id es
  unfolding Passed
  packet_goal id =
      ap (λ (l : List ℕ). goal_found id (drop 1 l)) body_is
      ∙ search_finds id (116 ∷ 0 ∷ 4 ∷ 0 ∷ list_bytes es) es (116 ∷ 0 ∷ 4 ∷ 0 ∷ []) (length (116 ∷ 0 ∷ 4 ∷ 0 ∷ list_bytes es)) b [] None refl
      (omega (arith, list_length es)) r tt
      ∙ last_is id b es r

  packet_writes : 0 < length es → length es ≤ 203 → GoalWrite (goal_packet es)
  packet_writes h k =
      let n = body_length b es r in
      record {
        well = round_trip.well_formed 254 (plan_head ++ list_bytes es) refl (omega arith) (omega arith);
        to_all = round_trip.same_id 254 (plan_head ++ list_bytes es);
        head = ap (take 5) body_is;
        carried_out_lem = let g = some_goal b es r h in (g.0, g.1, subst (λ (l : List ℕ). 0 < length l) (sym (packet_goal g.0)) g.2);
      }

all_goals_lem : (steps b id : ℕ) (es : List GoalEntry) → length es ≤ steps → Rising b es → goals_in id (packets_from steps es) ≡ goals_of id es
unfolding packets_from goals_in goals_of
all_goals_lem zero b id [] h r = refl
all_goals_lem zero b id (e ∷ es) h r = absurd (omega arith)
all_goals_lem (suc steps) b id [] h r = refl
all_goals_lem (suc steps) b id (e ∷ es) h r =
    let l = length-drop 203 (e ∷ es) in
    ap₂ (λ (x y : List ℕ). x ++ y) (packet_goal b (take 203 (e ∷ es)) (rising_take 203 b (e ∷ es) r) id)
    (all_goals_lem steps b id (drop 203 (e ∷ es)) (omega arith) (rising_drop 203 b (e ∷ es) r))
    ∙ sym (goals_append id (take 203 (e ∷ es)) (drop 203 (e ∷ es)))
    ∙ ap (goals_of id) (take-append-drop 203 (e ∷ es))

all_write : (steps b : ℕ) (es : List GoalEntry) → Rising b es → (w : List ℕ) → Memᴰ w (packets_from steps es) → GoalWrite w
unfolding packets_from
all_write zero b es r w m = absurd (Memᴰ.not-nil m)
all_write (suc steps) b [] r w m = absurd (Memᴰ.not-nil m)
all_write (suc steps) b (e ∷ es) r w m =
    let t = length-take 203 (e ∷ es) in
    ⊎_elim
    (λ q. subst GoalWrite (sym q) (packet_writes b (take 203 (e ∷ es)) (rising_take 203 b (e ∷ es) r) (omega arith) (omega arith)))
    (λ i. all_write steps b (drop 203 (e ∷ es)) (rising_drop 203 b (e ∷ es) r) w i) (Memᴰ.cases_cons m)

pub accepted : (goals : List ℤ) → goals_refusal goals ≡ None → Plan goals (plan_of goals)
accepted goals e =
    let es = entries_from goals 0 in
    let n = goals_counted goals e in
    let v = goals_within_lem goals e in
    let r = entries_rise goals 0 (omega arith) v in
    record {
      packets = packets_from (length es) es;
      end_to_end = refl;
      each = all_write (length es) 0 es r;
      stands = λ id h. all_goals_lem (length es) 0 id es (omega arith) r ∙ (let q : 0 + id ≡ id = omega arith in rw q at (entries_goal goals 0 id v (omega arith)));
    }
