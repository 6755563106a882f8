-- No plan has fewer packets than ours: a packet has goals for 203 IDs at the most.
use Rattle.std.specs.Prelude.{None, Option}
use mathlib.Core.Path.{◌≡◌, refl, sym, ap, ◌∙◌}
use mathlib.Core.Bool.{Bool, true, false, cond}
use mathlib.Core.List.{List, [], ◌∷◌, Memᴰ}
use Prim.Native.Nat.{ℕ, zero, suc, ◌+◌, ◌*◌, ◌-◌, ◌≤◌, ◌<◌}
use native.Mathlib.Omega.{arith}
use lib.Dec.{leb, eqb}
use lib.IntN.{ℤ, pos, negsuc}
use lib.ListN.{length, get_or, length-append, length-drop}
use borrow.Author.Tests.{eqb-true, ne_eqb, leb-true}
use Rattle.lists.proofs.Bools.{and_left}
use Rattle.stuffing.specs.Stuffing.{unstuff}
use Rattle.packet.specs.Packet.{body_of}
use Rattle.device_parameters.specs.Entries.{entry_good, search_from, entry_at}
use Rattle.device_parameters.specs.Parameters.{word_at, plain}
use Rattle.device_parameters.specs.declared.OwnEntry.{OwnEntry}
use Rattle.plan.specs.Goals.{unwanted, goal_of, goals_refusal, wanted}
use Rattle.plan.specs.Plan.{goal_at, goal_found, params_of, goals_in, GoalWrite, Plan}
use Rattle.plan.specs.Planner.{entries_from, plan_packets}
use Rattle.plan.proofs.Packets.{packets_count, packet_body_fits}
use Rattle.plan.proofs.Wanted.{goals_counted}

-- ---- sums

sum : ℕ → (ℕ → ℕ) → ℕ
sum zero f = 0
sum (suc n) f = f n + sum n f

sum_same : (n : ℕ) (f g : ℕ → ℕ) → ((i : ℕ) → i < n → f i ≡ g i) → sum n f ≡ sum n g
unfolding sum
sum_same zero f g h = refl
sum_same (suc n) f g h = omega (arith, h n (omega arith), sum_same n f g (λ i l. h i (omega arith)))

sum_add : (n : ℕ) (f g : ℕ → ℕ) → sum n (λ i. f i + g i) ≡ sum n f + sum n g
unfolding sum
sum_add zero f g = refl
sum_add (suc n) f g = omega (arith, sum_add n f g)

sum_first : (n : ℕ) (f : ℕ → ℕ) → sum (suc n) f ≡ f 0 + sum n (λ i. f (suc i))
unfolding sum
sum_first zero f = refl
sum_first (suc n) f = omega (arith, sum_first n f)

sum_none : (n : ℕ) → sum n (λ i. 0) ≡ 0
unfolding sum
sum_none zero = refl
sum_none (suc n) = omega (arith, sum_none n)

-- ---- how many IDs find an entry

module _ (params : List ℕ) where
  abbrev finds : Option OwnEntry → ℕ
  finds f = length (goal_at params f)

  one_more_lem : (n x slot at : ℕ) (F : ℕ → Option OwnEntry) → sum n (λ id. finds (cond (eqb x id) (entry_at slot at) (F id))) ≤ 1 + sum n (λ id. finds (F id))
  unfolding sum
  one_more_lem zero x slot at F = omega arith
  one_more_lem (suc n) x slot at F = by_id (eqb x n) refl (one_more_lem n x slot at F)
    where
      by_id : (b : Bool) → eqb x n ≡ b → sum n (λ id. finds (cond (eqb x id) (entry_at slot at) (F id))) ≤ 1 + sum n (λ id. finds (F id))
          → finds (cond b (entry_at slot at) (F n)) + sum n (λ id. finds (cond (eqb x id) (entry_at slot at) (F id))) ≤ 1 + (finds (F n) + sum n (λ id. finds (F id)))
      by_id false e h = omega arith
      by_id true e h =
          let i = eqb-true x n e in
          omega (
            arith,
            sum_same n (λ id. finds (cond (eqb x id) (entry_at slot at) (F id))) (λ id. finds (F id))
                (λ id l. ap (λ (b : Bool). finds (cond b (entry_at slot at) (F id))) (ne_eqb x id (λ q. omega arith))),
          )

  search_count : (n steps at : ℕ) (passed : List ℕ) (F : ℕ → Option OwnEntry)
      → 5 * sum n (λ id. finds (search_from (plain 5) id params steps at passed (F id))) ≤ 5 * sum n (λ id. finds (F id)) + (length params - at)
  unfolding search_from
  search_count n zero at passed F = by_end (leb (length params) at)
    where
      by_end : (b : Bool) → 5 * sum n (λ id. finds (cond b (F id) None)) ≤ 5 * sum n (λ id. finds (F id)) + (length params - at)
      by_end true = omega arith
      by_end false = omega (arith, sum_none n)
  search_count n (suc steps) at passed F =
      by_entry_lem (leb (length params) at) (entry_good (plain 5) params at passed) refl
      (search_count n steps (at + 5) (get_or params at 0 ∷ passed) (λ id. cond (eqb (get_or params at 0) id) (entry_at (length passed) at) (F id)))
    where
      rest : ℕ → Option OwnEntry
      rest id = search_from (plain 5) id params steps (at + 5) (get_or params at 0 ∷ passed) (cond (eqb (get_or params at 0) id) (entry_at (length passed) at) (F id))

      by_entry_lem : (b g : Bool) → entry_good (plain 5) params at passed ≡ g
          → 5 * sum n (λ id. finds (rest id)) ≤ 5 * sum n (λ id. finds (cond (eqb (get_or params at 0) id) (entry_at (length passed) at) (F id))) + (length params - (at + 5))
          → 5 * sum n (λ id. finds (cond b (F id) (cond g (rest id) None))) ≤ 5 * sum n (λ id. finds (F id)) + (length params - at)
      by_entry_lem true g e h = omega arith
      by_entry_lem false false e h = omega (arith, sum_none n)
      by_entry_lem false true e h =
          let l = leb-true (at + 5) (length params) (and_left _ _ e) in
          omega (arith, one_more_lem n (get_or params at 0) (length passed) at F)

  list_count : (n : ℕ) → 5 * sum n (λ id. length (goal_found id params)) ≤ length params - 4
  list_count n = by_length (eqb (word_at params 2) 0) (search_count n (length params) 4 [] (λ id. None))
    where
      by_length : (b : Bool) → 5 * sum n (λ id. finds (search_from (plain 5) id params (length params) 4 [] None)) ≤ 5 * sum n (λ id. 0) + (length params - 4)
          → 5 * sum n (λ id. finds (cond b None (search_from (plain 5) id params (length params) 4 [] None))) ≤ length params - 4
      by_length true h = omega (arith, sum_none n)
      by_length false h = omega (arith, sum_none n)

-- ---- how many all packets have

packet_count : (w : List ℕ) → GoalWrite w → sum 253 (λ id. length (goal_found id (params_of w))) ≤ 203
packet_count w g =
    let b = packet_body_fits w g.well in
    let d = length-drop 1 (unstuff (body_of w)) in
    omega (arith, list_count (params_of w) 253)

plan_count : (ws : List (List ℕ)) → ((w : List ℕ) → Memᴰ w ws → GoalWrite w) → sum 253 (λ id. length (goals_in id ws)) ≤ 203 * length ws
unfolding goals_in
plan_count [] f = omega (arith, sum_none 253)
plan_count (w ∷ ws) f =
    let e = sum_same 253 (λ id. length (goals_in id (w ∷ ws))) (λ id. length (goal_found id (params_of w)) + length (goals_in id ws))
    (λ id h. length-append (goal_found id (params_of w)) (goals_in id ws)) in
    omega (
      arith,
      sum_add 253 (λ id. length (goal_found id (params_of w))) (λ id. length (goals_in id ws)),
      packet_count w (f w (Memᴰ.head refl)),
      plan_count ws (λ v m. f v (Memᴰ.tail m)),
    )

-- ---- how many are wanted

entries_count : (goals : List ℤ) (b : ℕ) → sum (length goals) (λ i. length (goal_of (get_or goals i unwanted))) ≡ length (entries_from goals b)
unfolding entries_from
entries_count [] b = sum_none 0
entries_count (pos n ∷ goals) b =
    sum_first (length goals) (λ i. length (goal_of (get_or (pos n ∷ goals) i unwanted))) ∙ omega (arith, entries_count goals (suc b))
entries_count (negsuc n ∷ goals) b =
    sum_first (length goals) (λ i. length (goal_of (get_or (negsuc n ∷ goals) i unwanted))) ∙ omega (arith, entries_count goals (suc b))

pub fewest : (goals : List ℤ) (bytes : List ℕ) → goals_refusal goals ≡ None → (plan : Plan goals bytes)
    → length (plan_packets goals) ≤ length plan.packets
fewest goals bytes e plan =
    let n = goals_counted goals e in
    let s = sum_same 253 (λ id. length (goals_in id plan.packets)) (λ id. length (wanted goals id)) (λ id h. ap length (plan.stands id h)) in
    let w : sum 253 (λ id. length (wanted goals id)) ≡ length (entries_from goals 0) =
    ap (λ (k : ℕ). sum k (λ id. length (wanted goals id))) (sym n) ∙ entries_count goals 0 in
    omega (arith, plan_count plan.packets plan.each, packets_count (length (entries_from goals 0)) (entries_from goals 0) (omega arith))
