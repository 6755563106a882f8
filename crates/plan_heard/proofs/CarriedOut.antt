-- The packets of a plan, one after the other: one of them at the most has an entry for the device.
use Rattle.std.specs.Prelude.{None}
use mathlib.Core.Path.{◌≡◌, refl, sym, ap, subst, ◌∙◌}
use mathlib.Core.Bool.{Bool, true, false}
use mathlib.Core.List.{List, [], ◌∷◌, ◌++◌, map, Memᴰ}
use mathlib.Core.Logic.{◌⊎◌, ⊎_elim}
use Prim.Native.Nat.{ℕ, ◌+◌, ◌≤◌, ◌<◌}
use native.Mathlib.Omega.{arith}
use lib.IntN.{ℤ, pos, negsuc}
use lib.ListN.{length, get_or}
use lib.Signed.{le_z}
use borrow.Author.Tests.{leb-true}
use Rattle.lists.specs.Numbers.{number_at}
use Rattle.lists.proofs.Bools.{and_right, both_ways}
use Rattle.stuffing.specs.Stuffing.{unstuff}
use Rattle.reading.specs.Reading.{Event, packet}
use Rattle.reading.specs.Calls.{Call}
use Rattle.reading.specs.Lists.{model, Follows, after, given}
use Rattle.reading.specs.Promise.{since, AtStart}
use Rattle.reader_records.specs.Records.{records}
use Rattle.reading.proofs.Clean.{call_promises}
use Rattle.packet.specs.Packet.{body_of}
use Rattle.packet.specs.Verdict.{protocol2}
use Rattle.packet.proofs.Laws.{laws}
use Rattle.reader_records.proofs.Records.{every_protocol}
use Rattle.table_registers.specs.Registers.{table_size, goal_position, end_of}
use Rattle.table_items.specs.Items.{value_of}
use Rattle.table_rules.specs.Rules.{stored}
use Rattle.table_rules.proofs.Stored.{stored_before, stored_after, stored_length}
use Rattle.device_dispatch.specs.Reactions.{own_id}
use Rattle.device.proofs.Calls.{state_accepted, accepted}
use Rattle.plan.specs.Goals.{unwanted, goal_of, wanted, goal_within, goals_refusal}
use Rattle.plan.specs.Plan.{goal_found, params_of, goals_in, GoalWrite, Plan}
use Rattle.plan.proofs.Wanted.{goals_within_lem, within_at}
use Rattle.plan_heard.specs.Hearing.{Device, Form, in_two, in_one, unstuffed, hears, hears_all}
use Rattle.plan_heard.specs.PlanCarriedOut.{admits, fault_of, Ready, of_device, Obeyed, TakenWhole}
use Rattle.plan_heard.proofs.Written.{goal_is}
use Rattle.plan_heard.proofs.Step.{Fit, changed, same_room, not_found, Wrote, is_found}

-- ---- lists with one goal at the most

nil_left : (a b : List ℕ) → a ++ b ≡ [] → a ≡ []
nil_left [] b e = refl
nil_left (x ∷ a) b e = let z : ◌≡◌ {A = ℕ} 0 1 = cc in absurd (omega arith)

nil_right : (a b : List ℕ) → a ++ b ≡ [] → b ≡ []
nil_right [] b e = e
nil_right (x ∷ a) b e = let z : ◌≡◌ {A = ℕ} 0 1 = cc in absurd (omega arith)

module _ (form : Form) where
  abbrev Room : Device → List (List ℕ) → Type 0
  Room d ws = (w : List ℕ) → Memᴰ w ws → length (unstuff (body_of w)) ≤ length d.body

  abbrev Writes : List (List ℕ) → Type 0
  Writes ws = (w : List ℕ) → Memᴰ w ws → GoalWrite w

  -- what a device with its own table t is before the packets behind w
  module _ (d : Device) (fit : Fit form d) (w : List ℕ) (ws : List (List ℕ)) (each : Writes (w ∷ ws)) (room : Room d (w ∷ ws)) where
    here : Memᴰ w (w ∷ ws)
    here = Memᴰ.head refl

    pub room_then : (table : List ℕ) → Room (changed d table w) ws
    room_then table v m = rw (same_room w (each w here) d (room w here) table) (room v (Memᴰ.tail m))

    pub fit_then : (table : List ℕ) → length table ≡ table_size → own_id table ≡ own_id d.table → Fit form (changed d table w)
    fit_then table sized own = record { sized = sized; known = rw own fit.known; short = fit.short; answerable = fit.answerable }

  -- ---- packets without an entry for the device

  pub record Untouched (d now : Device) : Type 0 where
    pub table : now.table ≡ d.table
    pub registered : now.registered ≡ d.registered

  none_heard : (ws : List (List ℕ)) (d : Device) → Fit form d → Writes ws → Room d ws → goals_in (own_id d.table) ws ≡ []
      → Untouched d (hears_all form d (map packet ws))
  unfolding goals_in hears_all
  none_heard [] d fit each room n = record { table = refl; registered = refl }
  none_heard (w ∷ ws) d fit each room n =
      let own = own_id d.table in
      let here = not_found w (each w (Memᴰ.head refl)) d (room w (Memᴰ.head refl)) form fit
      (nil_left (goal_found own (params_of w)) (goals_in own ws) n) in
      let u = none_heard ws (changed d d.table w) (fit_then d fit w ws each room d.table fit.sized refl)
      (λ v m. each v (Memᴰ.tail m)) (room_then d fit w ws each room d.table) (nil_right (goal_found own (params_of w)) (goals_in own ws) n) in
      subst (λ (e : Device). Untouched d (hears_all form e (map packet ws))) (sym here) (record { table = u.table; registered = u.registered })

  -- ---- packets of which one has an entry for the device

  pub record Reached (d : Device) (goal : ℕ) (now : Device) : Type 0 where
    pub stored' : admits d.table goal ≡ true → value_of goal_position now.table ≡ pos goal
    pub refused : admits d.table goal ≡ false → now.table ≡ d.table
    pub others : (a : ℕ) → (a < goal_position.address) ⊎ (end_of goal_position ≤ a) → get_or now.table a 0 ≡ get_or d.table a 0
    pub registered : now.registered ≡ d.registered

  -- the device has its entry, and those behind leave it
  module _ (d : Device) (goal : ℕ) (low : goal ≤ 4095) (fit : Fit form d) (w : List ℕ) (ws : List (List ℕ)) (each : Writes (w ∷ ws))
      (room : Room d (w ∷ ws)) (rest : goals_in (own_id d.table) ws ≡ []) where
    behind : (table : List ℕ) → length table ≡ table_size → own_id table ≡ own_id d.table
        → Untouched (changed d table w) (hears_all form (changed d table w) (map packet ws))
    behind table sized own =
        none_heard ws (changed d table w) (fit_then d fit w ws each room table sized own) (λ v m. each v (Memᴰ.tail m))
        (room_then d fit w ws each room table) (ap (λ (id : ℕ). goals_in id ws) own ∙ rest)

    module _ (bytes : List ℕ) (four : length bytes ≡ 4) (are : number_at bytes 0 4 ≡ goal) where
      fits : 116 + length bytes ≤ length d.table
      fits = let s = fit.sized in omega arith

      stores : admits d.table goal ≡ true → Reached d goal (hears_all form (changed d (stored d.table 116 bytes) w) (map packet ws))
      stores t =
          let u = behind (stored d.table 116 bytes) (stored_length d.table 116 bytes fits ∙ fit.sized)
          (stored_before d.table 116 bytes fits 7 (omega arith)) in
          record {
            stored' = λ _. ap (λ (l : List ℕ). value_of goal_position l) u.table ∙ goal_is d.table bytes goal fit.sized four are low;
            refused = λ f. both_ways (admits d.table goal) t f;
            others = λ a h.
                ap (λ (l : List ℕ). get_or l a 0) u.table
                ∙ ⊎_elim (λ l. stored_before d.table 116 bytes fits a l) (λ l. stored_after d.table 116 bytes fits a (omega arith)) h;
            registered = u.registered;
          }

    refuses : admits d.table goal ≡ false → Reached d goal (hears_all form (changed d d.table w) (map packet ws))
    refuses f =
        let u = behind d.table fit.sized refl in
        record {
          stored' = λ t. both_ways (admits d.table goal) t f;
          refused = λ _. u.table;
          others = λ a h. ap (λ (l : List ℕ). get_or l a 0) u.table;
          registered = u.registered;
        }

    pub reached : Wrote w (each w (Memᴰ.head refl)) d (room w (Memᴰ.head refl)) form fit goal
        → Reached d goal (hears_all form (hears form d (packet w)) (map packet ws))
    reached o = by_limits (admits d.table goal) refl
      where
        by_limits : (b : Bool) → admits d.table goal ≡ b → Reached d goal (hears_all form (hears form d (packet w)) (map packet ws))
        by_limits true t =
            subst (λ (e : Device). Reached d goal (hears_all form e (map packet ws))) (sym (o.left ∙ rw t refl)) (stores o.bytes o.four o.are t)
        by_limits false f =
            subst (λ (e : Device). Reached d goal (hears_all form e (map packet ws))) (sym (o.left ∙ rw f refl)) (refuses f)

  -- by what it finds in the first packet; `later` is what holds where that has nothing for it
  module _ (d : Device) (goal : ℕ) (low : goal ≤ 4095) (fit : Fit form d) (w : List ℕ) (ws : List (List ℕ)) (each : Writes (w ∷ ws))
      (room : Room d (w ∷ ws)) (later : goals_in (own_id d.table) ws ≡ goal ∷ []
      → Reached (changed d d.table w) goal (hears_all form (changed d d.table w) (map packet ws))) where
    by_goals : (us : List ℕ) → goal_found (own_id d.table) (params_of w) ≡ us → us ++ goals_in (own_id d.table) ws ≡ goal ∷ []
        → Reached d goal (hears_all form (hears form d (packet w)) (map packet ws))
    by_goals [] e n =
        let u = later n in
        subst (λ (x : Device). Reached d goal (hears_all form x (map packet ws)))
        (sym (not_found w (each w (Memᴰ.head refl)) d (room w (Memᴰ.head refl)) form fit e))
        (record { stored' = u.stored'; refused = u.refused; others = u.others; registered = u.registered })
    by_goals (u ∷ us) e n =
        let same : u ≡ goal = cc in
        let rest : us ++ goals_in (own_id d.table) ws ≡ [] = cc in
        reached d goal low fit w ws each room (nil_right us (goals_in (own_id d.table) ws) rest)
        (is_found w (each w (Memᴰ.head refl)) d (room w (Memᴰ.head refl)) form fit goal us (e ∙ ap (λ (x : ℕ). x ∷ us) same) low)

  one_heard : (ws : List (List ℕ)) (d : Device) (goal : ℕ) → goal ≤ 4095 → Fit form d → Writes ws → Room d ws → goals_in (own_id d.table) ws ≡ goal ∷ []
      → Reached d goal (hears_all form d (map packet ws))
  unfolding goals_in hears_all
  one_heard [] d goal low fit each room n = let z : ◌≡◌ {A = ℕ} 0 1 = cc in absurd (omega arith)
  one_heard (w ∷ ws) d goal low fit each room n =
      by_goals d goal low fit w ws each room
      (λ m. one_heard ws (changed d d.table w) goal low (fit_then d fit w ws each room d.table fit.sized refl)
      (λ v k. each v (Memᴰ.tail k)) (room_then d fit w ws each room d.table) m)
      (goal_found (own_id d.table) (params_of w)) refl n

-- ---- the device at the start, and the whole plan

fit_of : (form : Form) (d : Device) → fault_of form d ≡ None → Fit form d
fit_of in_two d e =
    let a = state_accepted d.table d.registered e in
    record { sized = a.sized; known = a.known; short = a.short; answerable = tt }
fit_of unstuffed d e =
    let a = state_accepted d.table d.registered e in
    record { sized = a.sized; known = a.known; short = a.short; answerable = tt }
fit_of in_one d e =
    let a = accepted d.table d.registered d.reply e in
    record { sized = a.sized; known = a.known; short = a.short; answerable = a.room }

bounded : (n : ℕ) → goal_within (pos n) ≡ true → n ≤ 4095
bounded n w = leb-true n 4095 (and_right (le_z unwanted (pos n)) (le_z (pos n) (pos 4095)) w)

module _ (goals : List ℤ) (form : Form) (d : Device) (fit : Fit form d) (ws : List (List ℕ)) (each : (w : List ℕ) → Memᴰ w ws → GoalWrite w)
    (room : Room form d ws) (stands : goals_in (own_id d.table) ws ≡ wanted goals (own_id d.table)) where
  abbrev end : Device
  end = hears_all form d (map packet ws)

  -- by what is wanted of the device
  obeyed : (z : ℤ) → get_or goals (own_id d.table) unwanted ≡ z → goal_within z ≡ true → Obeyed goals (of_device d) (of_device end)
  obeyed (pos n) e w =
      let is : wanted goals (own_id d.table) ≡ n ∷ [] = ap goal_of e in
      let r = one_heard form ws d n (bounded n w) fit each room (stands ∙ is) in
      record {
        stored = λ goal h a.
            let same : n ≡ goal = cc in
            r.stored' (rw same a) ∙ ap pos same;
        refused = λ goal h a.
            let same : n ≡ goal = cc in
            r.refused (rw same a);
        unwanted = λ h. let z : ◌≡◌ {A = ℕ} 0 1 = cc in absurd (omega arith);
        others = r.others;
        registered = r.registered;
      }
  obeyed (negsuc n) e w =
      let is : wanted goals (own_id d.table) ≡ [] = ap goal_of e in
      let u = none_heard form ws d fit each room (stands ∙ is) in
      record {
        stored = λ goal h a. let z : ◌≡◌ {A = ℕ} 0 1 = cc in absurd (omega arith);
        refused = λ goal h a. let z : ◌≡◌ {A = ℕ} 0 1 = cc in absurd (omega arith);
        unwanted = λ h. u.table;
        others = λ a h. ap (λ (l : List ℕ). get_or l a 0) u.table;
        registered = u.registered;
      }

-- the reader of the rules is one that keeps to them
model_follows : Follows protocol2 (model protocol2) (λ h. Unit {0}) (λ h. h)
model_follows =
    record { fresh = λ x e. (tt, e); same_taken = λ x c l. refl; same_answer_lem = λ x c l. refl; same_next = λ x c l. (tt, refl) }

-- what a reader is promised, for every form of calls
abbrev pub CarriedOut : Type 0
CarriedOut =
    (goals : List ℤ) (bytes : List ℕ) → goals_refusal goals ≡ None → (plan : Plan goals bytes)
    → (x : records.State) → records.Fresh x → (earlier : List Call) → AtStart (model protocol2) [] earlier
    → (chunks : List (List ℕ)) (g : ℕ) → TakenWhole chunks g bytes → (form : Form) (d : Device) → Ready form d plan.packets
    → Obeyed goals (of_device d) (of_device (hears_all form d (given records (after records x earlier) (since chunks g))))

pub carried_out_lem : CarriedOut
carried_out_lem goals bytes good plan x fresh earlier start chunks g taken form d ready =
    let ws = plan.packets in
    let fit = fit_of form d ready.faultless in
    let line = every_protocol.two.calls.clean_line x fresh earlier start chunks g ws (λ w m. (plan.each w m).well)
    (taken.0 ∙ sym plan.end_to_end) taken.1 in
    subst (λ (events : List Event). Obeyed goals (of_device d) (of_device (hears_all form d events))) (sym line.1)
    (obeyed goals form d fit ws plan.each ready.room (plan.stands (own_id d.table) (let k = fit.known in omega arith))
    (get_or goals (own_id d.table) unwanted) refl (within_at goals (own_id d.table) (goals_within_lem goals good)))

pub can_be_taken : (goals : List ℤ) (bytes : List ℕ) (plan : Plan goals bytes) → TakenWhole plan.packets 1 bytes
can_be_taken goals bytes plan =
    let r = (call_promises protocol2 laws (model protocol2) (λ h. Unit {0}) (λ h. h) model_follows).packet_by_packet [] refl plan.packets
    (λ w m. (plan.each w m).well) in
    (r.all_taken ∙ plan.end_to_end, r.finished)
