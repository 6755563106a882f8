-- The worked plans are plans of their goals, which are not refused.
use Rattle.std.specs.Prelude.{None}
use mathlib.Core.Path.{◌≡◌, refl, sym, subst}
use mathlib.Core.Bool.{Bool, true, false}
use mathlib.Core.List.Memᴰ
use mathlib.Core.List.{List, [], ◌∷◌, Memᴰ}
use mathlib.Core.Logic.{⊎_elim}
use Prim.Native.Nat.{ℕ, ◌<◌}
use lib.Dec.{T}
use borrow.Author.Tests.{ltb-true}
use Rattle.lists.specs.Numbers.{number_at}
use Rattle.lists.proofs.Below.{all_below, below}
use Rattle.lists.proofs.Decided.{same, same_lists}
use Rattle.crc.specs.Crc.{reduce_if, shift, shifts, crc_byte, crc_from}
use Rattle.stuffing.specs.Stuffing.{well_after, unstuff_after}
use Rattle.reading.proofs.Decided.{well}
use Rattle.packet_front.specs.Front.{length_of}
use Rattle.packet_front.specs.Header.{front_agrees, length_agrees}
use Rattle.packet_rules.specs.Shape.{verdict as shapeVerdict}
use Rattle.packet.specs.Packet.{body_of, checksum_right, WellFormed}
use Rattle.packet.specs.Verdict.{protocol2}
use Rattle.packet.proofs.Laws.{laws}
use Rattle.device_parameters.specs.Entries.{occurs, search_from}
use Rattle.plan.specs.Goals.{wanted, goals_within, goals_refusal}
use Rattle.plan.specs.Plan.{GoalWrite, goals_in, Plan}
use Rattle.plan.specs.Samples.{two_goals, plan_of_two, goal_of_3, goal_of_9, plan_in_two}

is_well : WellFormed plan_of_two
unfolding reduce_if shift shifts crc_byte crc_from well_after length_of body_of checksum_right front_agrees length_agrees shapeVerdict
is_well = well protocol2 laws plan_of_two refl

of_3_well : WellFormed goal_of_3
unfolding reduce_if shift shifts crc_byte crc_from well_after length_of body_of checksum_right front_agrees length_agrees shapeVerdict
of_3_well = well protocol2 laws goal_of_3 refl

of_9_well : WellFormed goal_of_9
unfolding reduce_if shift shifts crc_byte crc_from well_after length_of body_of checksum_right front_agrees length_agrees shapeVerdict
of_9_well = well protocol2 laws goal_of_9 refl

pub goal_write : GoalWrite plan_of_two
unfolding body_of unstuff_after occurs search_from number_at
goal_write = record { well = is_well; to_all = refl; head = refl; carried_out_lem = (3, ltb-true _ _ refl, ltb-true _ _ refl) }

pub of_3 : GoalWrite goal_of_3
unfolding body_of unstuff_after occurs search_from number_at
of_3 = record { well = of_3_well; to_all = refl; head = refl; carried_out_lem = (3, ltb-true _ _ refl, ltb-true _ _ refl) }

pub of_9 : GoalWrite goal_of_9
unfolding body_of unstuff_after occurs search_from number_at
of_9 = record { well = of_9_well; to_all = refl; head = refl; carried_out_lem = (9, ltb-true _ _ refl, ltb-true _ _ refl) }

-- over all IDs, by one test
abbrev pub stands_at : List (List ℕ) → ℕ → Bool
stands_at packets id = same (goals_in id packets) (wanted two_goals id)

pub is_true : (b : Bool) → T b → b ≡ true
is_true true t = refl
is_true false t = absurd t

pub stands_all : T (all_below (stands_at (plan_of_two ∷ [])) 253)
unfolding goals_in body_of unstuff_after occurs search_from number_at
stands_all = tt

pub both_stand_all : T (all_below (stands_at (goal_of_3 ∷ goal_of_9 ∷ [])) 253)
unfolding goals_in body_of unstuff_after occurs search_from number_at
both_stand_all = tt

pub stands : (packets : List (List ℕ)) → T (all_below (stands_at packets) 253) → (id : ℕ) → id < 253 → goals_in id packets ≡ wanted two_goals id
stands packets all id h = same_lists _ _ (is_true (stands_at packets id) (below (stands_at packets) 253 all id h))

pub each : (w : List ℕ) (ws : List (List ℕ)) → GoalWrite w → ((v : List ℕ) → Memᴰ v ws → GoalWrite v)
    → (v : List ℕ) → Memᴰ v (w ∷ ws) → GoalWrite v
each w ws g gs v m = ⊎_elim (λ e. subst GoalWrite (sym e) g) (λ n. gs v n) (Memᴰ.cases_cons m)

pub none_more : (v : List ℕ) → Memᴰ v [] → GoalWrite v
none_more v m = absurd (Memᴰ.not-nil m)

unfoldable pub plan_of_two_lem : Plan two_goals plan_of_two
plan_of_two_lem =
    record {
      packets = plan_of_two ∷ [];
      end_to_end = refl;
      each = each plan_of_two [] goal_write none_more;
      stands = stands (plan_of_two ∷ []) stands_all;
    }

unfoldable pub plan_in_two_lem : Plan two_goals plan_in_two
plan_in_two_lem =
    record {
      packets = goal_of_3 ∷ goal_of_9 ∷ [];
      end_to_end = refl;
      each = each goal_of_3 (goal_of_9 ∷ []) of_3 (each goal_of_9 [] of_9 none_more);
      stands = stands (goal_of_3 ∷ goal_of_9 ∷ []) both_stand_all;
    }

pub two_goals_good : goals_refusal two_goals ≡ None
unfolding goals_refusal goals_within
two_goals_good = refl
