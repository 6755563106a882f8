-- What is left of a plan, packet after packet.
use mathlib.Core.Path.{◌≡◌, refl, sym, ap, subst, ◌∙◌}
use mathlib.Core.List.Memᴰ
use mathlib.Core.List.{List, [], ◌∷◌, ◌++◌, append-nil, append_assoc, Memᴰ}
use mathlib.Core.Bool.{Bool, true, false}
use mathlib.Core.Logic.{⊎_elim}
use Prim.Native.Nat.{ℕ, ◌+◌, ◌<◌, ◌≤◌}
use native.Mathlib.Omega.{arith}
use lib.IntN.{ℤ}
use lib.ListN.{length, take, drop, get_or, length-append, take-append-drop, drop_of_length-le, length-drop, replicate, length-replicate, get_or-replicate}
use lib.Seq.{take-append_seam, drop-append_seam, drop-drop}
use Rattle.reading.specs.Rules.{Verdict, is_packet, is_bad_checksum, is_waiting, is_nothing}
use Rattle.reading.specs.Promise.{joined}
use Rattle.packet.specs.Verdict.{verdict}
use Rattle.packet.proofs.Laws.{laws}
use Rattle.plan.specs.Goals.{wanted}
use Rattle.plan.specs.Plan.{goal_found, params_of, goals_in, GoalWrite, Plan}
use Rattle.plan_check.specs.Tested.{SaysWhether}
use Rattle.plan_check.specs.Checking.{past, Marked, Clash}

-- with what has stood, the bytes complete the plan
pub record Rest (goals : List ℤ) (stood : List Bool) (bytes : List ℕ) : Type 0 where
  pub packets : List (List ℕ)
  pub end_to_end : joined packets ≡ bytes
  pub each : (w : List ℕ) → Memᴰ w packets → GoalWrite w
  pub stands : (id : ℕ) → id < 253 → past goals stood id ++ goals_in id packets ≡ wanted goals id

-- a packet has bytes
some_bytes : (w : List ℕ) → GoalWrite w → 0 < length w
some_bytes w g = omega (arith, g.well.counted)

module _ (s : List ℕ) where
  -- the first of the packets that s is made of
  pub record First (packets : List (List ℕ)) : Type 0 where
    pub w : List ℕ
    pub ws : List (List ℕ)
    pub are : packets ≡ w ∷ ws
    pub joins : w ++ joined ws ≡ s
    pub writes : GoalWrite w
    pub others : (v : List ℕ) → Memᴰ v ws → GoalWrite v

  first_of : (packets : List (List ℕ)) → joined packets ≡ s → ((w : List ℕ) → Memᴰ w packets → GoalWrite w) → 0 < length s
      → First packets
  first_of [] e f h = absurd (omega (arith, ap length e))
  first_of (w ∷ ws) e f h =
      record { w = w; ws = ws; are = refl; joins = e; writes = f w (Memᴰ.head refl); others = λ v m. f v (Memᴰ.tail m) }

  found : (packets : List (List ℕ)) (x : First packets) → verdict s ≡ is_packet (length x.w)
  found packets x = ap verdict (sym x.joins) ∙ laws.whole x.w (joined x.ws) x.writes.well

module _ (goals : List ℤ) (stood : List Bool) (s : List ℕ) (h : 0 < length s) where
  first : (r : Rest goals stood s) → First s r.packets
  first r = first_of s r.packets r.end_to_end r.each h

  -- they begin with a packet
  pub begins : Rest goals stood s → ((n : ℕ) → verdict s ≡ is_packet n → ⊥) → ⊥
  begins r never = never (length (first r).w) (found s r.packets (first r))

  module _ (n : ℕ) (v : verdict s ≡ is_packet n) where
    same_count : (r : Rest goals stood s) → length (first r).w ≡ n
    same_count r = ap count (sym (found s r.packets (first r)) ∙ v)
      where
        count : Verdict → ℕ
        count (is_packet k) = k
        count (is_bad_checksum k) = 0
        count is_waiting = 0
        count is_nothing = 0

    taken : (r : Rest goals stood s) → take n s ≡ (first r).w
    taken r =
        let x = first r in
        rw (sym (same_count r)) (ap (take (length x.w)) (sym x.joins) ∙ take-append_seam x.w (joined x.ws))

    dropped : (r : Rest goals stood s) → joined (first r).ws ≡ drop n s
    dropped r =
        let x = first r in
        rw (sym (same_count r)) (sym (ap (drop (length x.w)) (sym x.joins) ∙ drop-append_seam x.w (joined x.ws)))

    stands : (r : Rest goals stood s) (id : ℕ) → id < 253
        → past goals stood id ++ (goal_found id (params_of (take n s)) ++ goals_in id (first r).ws) ≡ wanted goals id
    unfolding goals_in
    stands r id l =
        let x = first r in
        ap (λ (w : List ℕ). past goals stood id ++ (goal_found id (params_of w) ++ goals_in id x.ws)) (taken r)
        ∙ ap (λ (ws : List (List ℕ)). past goals stood id ++ goals_in id ws) (sym x.are) ∙ r.stands id l

    pub goes_on : (new : List Bool) → Marked goals stood (params_of (take n s)) new → Rest goals stood s → Rest goals new (drop n s)
    goes_on new m r =
        record {
          packets = (first r).ws;
          end_to_end = dropped r;
          each = (first r).others;
          stands = λ id l.
              ap (λ (p : List ℕ). p ++ goals_in id (first r).ws) (m.as_found id l)
              ∙ append_assoc (past goals stood id) (goal_found id (params_of (take n s))) (goals_in id (first r).ws) ∙ stands r id l;
        }

    pub goes_back : (new : List Bool) → GoalWrite (take n s) → Marked goals stood (params_of (take n s)) new → Rest goals new (drop n s)
        → Rest goals stood s
    unfolding goals_in
    goes_back new g m r =
        record {
          packets = take n s ∷ r.packets;
          end_to_end = ap (λ (l : List ℕ). take n s ++ l) r.end_to_end ∙ take-append-drop n s;
          each = λ w i. ⊎_elim (λ e. subst GoalWrite (sym e) g) (λ j. r.each w j) (Memᴰ.cases_cons i);
          stands = λ id l.
              sym (ap (λ (p : List ℕ). p ++ goals_in id r.packets) (m.as_found id l)
              ∙ append_assoc (past goals stood id) (goal_found id (params_of (take n s))) (goals_in id r.packets)) ∙ r.stands id l;
        }

    pub clashes : (GoalWrite (take n s) → Clash goals stood (params_of (take n s))) → Rest goals stood s → ⊥
    clashes f r =
        let c = f (subst GoalWrite (sym (taken r)) (first r).writes) in
        c.2 (goals_in c.0 (first r).ws) (stands r c.0 c.1)

-- ---- the beginning and the end

module _ (goals : List ℤ) (stood : List Bool) where
  abbrev pub AllStood : Type 0
  AllStood = (id : ℕ) → id < 253 → past goals stood id ≡ wanted goals id

  none_left : (packets : List (List ℕ)) → joined packets ≡ [] → ((w : List ℕ) → Memᴰ w packets → GoalWrite w) → packets ≡ []
  none_left [] e f = refl
  none_left (w ∷ ws) e f =
      absurd (omega (arith, ap length e, length-append w (joined ws), some_bytes w (f w (Memᴰ.head refl))))

  pub ends : Rest goals stood [] → AllStood
  unfolding goals_in
  ends r id h =
      sym (append-nil (past goals stood id))
      ∙ ap (λ (ws : List (List ℕ)). past goals stood id ++ goals_in id ws) (sym (none_left r.packets r.end_to_end r.each)) ∙ r.stands id h

  pub at_end : AllStood → Rest goals stood []
  unfolding goals_in
  at_end f =
      record { packets = []; end_to_end = refl; each = λ w m. absurd (Memᴰ.not-nil m); stands = λ id h. append-nil (past goals stood id) ∙ f id h }

  module _ (zeros : (id : ℕ) → id < 253 → get_or stood id false ≡ false) (bytes : List ℕ) where
    nothing_past : (id : ℕ) → id < 253 → past goals stood id ≡ []
    nothing_past id h = rw (zeros id h)

    pub to_plan : Rest goals stood bytes → Plan goals bytes
    to_plan r =
        record {
          packets = r.packets;
          end_to_end = r.end_to_end;
          each = r.each;
          stands = λ id h. sym (ap (λ (p : List ℕ). p ++ goals_in id r.packets) (nothing_past id h)) ∙ r.stands id h;
        }

    pub of_plan : Plan goals bytes → Rest goals stood bytes
    of_plan p =
        record {
          packets = p.packets;
          end_to_end = p.end_to_end;
          each = p.each;
          stands = λ id h. ap (λ (l : List ℕ). l ++ goals_in id p.packets) (nothing_past id h) ∙ p.stands id h;
        }

-- ---- the loop over the packets

module _ (goals : List ℤ) (plan : List ℕ) where
  pub record Halfway (stood : List Bool) (at : ℕ) : Type 0 where
    pub long : length stood ≡ 253
    pub within : at ≤ length plan
    pub back : Rest goals stood (drop at plan) → Plan goals plan
    pub on : Plan goals plan → Rest goals stood (drop at plan)

  pub halfway_next : (stood new : List Bool) (at n : ℕ) → Halfway stood at → at < length plan → verdict (drop at plan) ≡ is_packet n
      → GoalWrite (take n (drop at plan)) → Marked goals stood (params_of (take n (drop at plan))) new → Halfway new (at + n)
  halfway_next stood new at n x h v g m =
      let l = length-drop at plan in
      let d = drop-drop n at plan in
      let s = (laws.sound (drop at plan) n v).1 in
      record {
        long = m.sized;
        within = omega arith;
        back = λ r. x.back (goes_back goals stood (drop at plan) (omega arith) n v new g m (subst (Rest goals new) (sym d) r));
        on = λ p. subst (Rest goals new) d (goes_on goals stood (drop at plan) (omega arith) n v new m (x.on p));
      }

  pub halfway_start : Halfway (replicate 253 false) 0
  halfway_start =
      let z : (id : ℕ) → id < 253 → get_or (replicate 253 false) id false ≡ false = λ id h. get_or-replicate 253 id false false h in
      record { long = length-replicate {A = Bool} 253 false; within = omega arith; back = to_plan goals (replicate 253 false) z plan; on = of_plan goals (replicate 253 false) z plan }

  module _ (stood : List Bool) (at : ℕ) (x : Halfway stood at) where
    pub halfway_none : at < length plan → ((n : ℕ) → verdict (drop at plan) ≡ is_packet n → ⊥) → ¬ Plan goals plan
    halfway_none h f p = let l = length-drop at plan in begins goals stood (drop at plan) (omega arith) (x.on p) f

    pub halfway_clash : (n : ℕ) → at < length plan → verdict (drop at plan) ≡ is_packet n
        → (GoalWrite (take n (drop at plan)) → Clash goals stood (params_of (take n (drop at plan)))) → ¬ Plan goals plan
    halfway_clash n h v f p = let l = length-drop at plan in clashes goals stood (drop at plan) (omega arith) n v f (x.on p)

    pub halfway_end : (r : Bool) → length plan ≤ at → SaysWhether r (AllStood goals stood) → SaysWhether r (Plan goals plan)
    halfway_end true h a = x.back (subst (Rest goals stood) (sym (drop_of_length-le plan h)) (at_end goals stood a))
    halfway_end false h a = λ p. a (ends goals stood (subst (Rest goals stood) (drop_of_length-le plan h) (x.on p)))
