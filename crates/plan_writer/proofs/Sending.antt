-- Packet after packet.
use Rattle.std.specs.Prelude.{None}
use mathlib.Core.Path.{◌≡◌, refl, sym, ap, ap₂, subst, ◌∙◌}
use mathlib.Core.Bool.{Bool, true, false}
use mathlib.Core.List.{List, [], ◌∷◌, ◌++◌, append-nil, append_assoc}
use Prim.Native.Nat.{ℕ, zero, suc, ◌+◌, ◌*◌, ◌/◌, ◌-◌, ◌≤◌, ◌<◌, min}
use native.Mathlib.Omega.{arith}
use lib.Dec.{leb}
use lib.IntN.{ℤ}
use lib.ListN.{length, take, drop, length-append, length-take, length-drop, drop_of_length-le}
use lib.Seq.{take_at, take_all}
use borrow.Author.Tests.{le-leb, leb-true, leb-false}
use Rattle.lists.specs.Write.{overwritten, placed}
use Rattle.stuffing.specs.Stuffing.{stuff}
use Rattle.reading.specs.Promise.{joined}
use Rattle.packet_encoder.specs.Encoding.{encode_refusal, encode_out}
use Rattle.plan.specs.Goals.{goals_refusal}
use Rattle.plan.specs.Plan.{plan_head}
use Rattle.plan.specs.Planner.{GoalEntry, entries_from, list_bytes, goal_packet, packets_from, plan_of}
use Rattle.plan.proofs.Packets.{Rising, rising_take, rising_drop, entries_rise, entries_few, list_length, body_length, goal_packet_length, plan_length}
use Rattle.plan.proofs.Wanted.{goals_counted, goals_within_lem}
use Rattle.plan_writer.specs.Filling.{entries_at}
use Rattle.plan_writer.proofs.Writing.{placed_next}

-- ---- one packet

-- k entries, of those that there are
module _ (es : List GoalEntry) (k : ℕ) (h : k ≤ length es) where
  counted : length (take k es) ≡ k
  counted = length-take k es ∙ omega arith

  -- the parameters in their buffer
  pub params_taken : (buffer out : List ℕ) → out ≡ overwritten buffer (116 ∷ 0 ∷ 4 ∷ 0 ∷ list_bytes (take k es))
      → k ≤ 203 → length buffer ≡ 1019 → (4 + 5 * k ≤ length out) × (take (4 + 5 * k) out ≡ 116 ∷ 0 ∷ 4 ∷ 0 ∷ list_bytes (take k es))
  params_taken buffer out e few room =
      let x : List ℕ = 116 ∷ 0 ∷ 4 ∷ 0 ∷ list_bytes (take k es) in
      let n : length x ≡ 4 + 5 * k = omega (arith, list_length (take k es), counted) in
      (omega (arith, ap length e, length-append x (drop (length x) buffer)), ap (take (4 + 5 * k)) e ∙ take_at x (drop (length x) buffer) (4 + 5 * k) n)

  module _ (out : List ℕ) (at : ℕ) (r : Rising 0 es) (few : k ≤ 203) (room : at + (14 + 5 * k) ≤ length out) where
    not_refused : encode_refusal 254 (plan_head ++ list_bytes (take k es)) out at ≡ None
    unfolding encode_refusal
    not_refused =
        let q = rising_take k 0 es r in
        let n = counted in
        let b = body_length 0 (take k es) q in
        let g = goal_packet_length 0 (take k es) q in
        rw (
          le-leb (length (stuff (plan_head ++ list_bytes (take k es))) + 2) 1024 (omega arith),
          le-leb (at + length (goal_packet (take k es))) (length out) (omega arith),
        )

    pub packet_placed : (params : List ℕ) → params ≡ 116 ∷ 0 ∷ 4 ∷ 0 ∷ list_bytes (take k es)
        → encode_out 254 (0x83 ∷ params) out at ≡ placed out at (goal_packet (take k es))
    packet_placed params e = ap (λ (p : List ℕ). encode_out 254 (0x83 ∷ p) out at) e ∙ rw not_refused

-- ---- the loop

-- 203 of them, where there are as many
by_room : (es : List GoalEntry) (k : ℕ) → k ≡ min (length es) 203 → (take k es ≡ take 203 es) × (drop k es ≡ drop 203 es)
by_room es k e = by_count (leb (length es) 203) refl
  where
    by_count : (b : Bool) → leb (length es) 203 ≡ b → (take k es ≡ take 203 es) × (drop k es ≡ drop 203 es)
    by_count true t =
        let l = leb-true (length es) 203 t in
        (take_all k es (omega arith) ∙ sym (take_all 203 es l), drop_of_length-le es {i = k} (omega arith) ∙ sym (drop_of_length-le es {i = 203} l))
    by_count false t =
        let l = leb-false (length es) 203 t in
        let n : k ≡ 203 = omega arith in
        (ap (λ (j : ℕ). take j es) n, ap (λ (j : ℕ). drop j es) n)

first_packet : (steps : ℕ) (es : List GoalEntry) (k : ℕ) → k ≡ min (length es) 203 → 0 < length es → length es ≤ steps
    → packets_from steps es ≡ goal_packet (take k es) ∷ packets_from (steps - 1) (drop k es)
unfolding packets_from
first_packet steps [] k e h l = absurd (omega arith)
first_packet zero (x ∷ es) k e h l = absurd (omega arith)
first_packet (suc steps) (x ∷ es) k e h l =
    let b = by_room (x ∷ es) k e in
    let n : suc steps - 1 ≡ steps = omega arith in
    rw n (ap₂ (λ (s t : List GoalEntry). goal_packet s ∷ packets_from steps t) (sym b.0) (sym b.1))

module _ (goals : List ℤ) (old : List ℕ) where
  pub record Sending (out : List ℕ) (left next at : ℕ) : Type 0 where
    pub written : List ℕ
    pub steps : ℕ
    pub counts : left ≡ length (entries_at goals next)
    pub enough : left ≤ steps
    pub rises : Rising 0 (entries_at goals next)
    pub holds : out ≡ overwritten old written
    pub reaches : at ≡ length written
    pub completes : written ++ joined (packets_from steps (entries_at goals next)) ≡ plan_of goals

  pub sending_start : (n : ℕ) → n ≡ length (entries_from goals 0) → Rising 0 (entries_from goals 0) → Sending old n 0 0
  sending_start n e r =
      record {
        written = [];
        steps = length (entries_from goals 0);
        counts = e;
        enough = omega arith;
        rises = r;
        holds = refl;
        reaches = refl;
        completes = refl;
      }

  module _ (out : List ℕ) (left next at k : ℕ) (s : Sending out left next at) (h : 0 < left) (e : k ≡ min left 203) where
    abbrev es : List GoalEntry
    es = entries_at goals next

    abbrev packet : List ℕ
    packet = goal_packet (take k es)

    size : length packet ≡ 14 + 5 * k
    size =
        let c = s.counts in
        goal_packet_length 0 (take k es) (rising_take k 0 es s.rises) ∙ omega (arith, counted es k (omega arith))

    complete : (s.written ++ packet) ++ joined (packets_from (s.steps - 1) (drop k es)) ≡ plan_of goals
    complete =
        let c = s.counts in
        let n = s.enough in
        append_assoc s.written packet (joined (packets_from (s.steps - 1) (drop k es)))
        ∙ ap (λ (ws : List (List ℕ)). s.written ++ joined ws) (sym (first_packet s.steps es k (rw c at e) (omega arith) (omega arith)))
        ∙ s.completes

    pub sending_room : length (plan_of goals) ≤ length old → (at + (14 + 5 * k) ≤ length out) × (length out ≡ length old)
    sending_room room =
        let r = s.reaches in
        let rest = joined (packets_from (s.steps - 1) (drop k es)) in
        let t = length-append (s.written ++ packet) rest in
        let u = length-append s.written packet in
        let fits : length s.written + length packet ≤ length old = omega (arith, ap length complete) in
        let same : length out ≡ length old =
        ap length s.holds ∙ length-append s.written (drop (length s.written) old) ∙ omega (arith, length-drop (length s.written) old) in
        (omega (arith, size), same)

    pub sending_next : (new : List ℕ) (after : ℕ) → entries_at goals after ≡ drop k es → new ≡ placed out at packet
        → Sending new (left - k) after (at + (14 + 5 * k))
    sending_next new after a p =
        let c = s.counts in
        let n = s.enough in
        let r = s.reaches in
        record {
          written = s.written ++ packet;
          steps = s.steps - 1;
          counts = omega (arith, ap length a, length-drop k es);
          enough = omega arith;
          rises = subst (Rising 0) (sym a) (rising_drop k 0 es s.rises);
          holds = p ∙ ap₂ (λ (o : List ℕ) (j : ℕ). placed o j packet) s.holds r ∙ placed_next old s.written packet;
          reaches = omega (arith, length-append s.written packet, size);
          completes = ap (λ (ds : List GoalEntry). (s.written ++ packet) ++ joined (packets_from (s.steps - 1) ds)) a ∙ complete;
        }

  none_left : (steps : ℕ) (es : List GoalEntry) → length es ≡ 0 → joined (packets_from steps es) ≡ []
  unfolding packets_from
  none_left zero es l = refl
  none_left (suc steps) [] l = refl
  none_left (suc steps) (x ∷ es) l = absurd (omega arith)

  pub sending_end : (out : List ℕ) (left next at : ℕ) → Sending out left next at → left ≡ 0 → out ≡ overwritten old (plan_of goals)
  sending_end out left next at s e =
      let c = s.counts in
      let n = none_left s.steps (entries_at goals next) (omega arith) in
      s.holds
      ∙ ap (overwritten old) (sym (append-nil s.written) ∙ ap (λ (l : List ℕ). s.written ++ l) (sym n) ∙ s.completes)

-- ---- before the loop

module _ (goals : List ℤ) (good : goals_refusal goals ≡ None) where
  pub entries_good : Rising 0 (entries_from goals 0)
  entries_good = entries_rise goals 0 (omega (arith, goals_counted goals good)) (goals_within_lem goals good)

  module _ (n : ℕ) (e : n ≡ length (entries_from goals 0)) where
    pub count_few : n ≤ 253
    count_few = omega (arith, goals_counted goals good, entries_few goals 0)

    pub size_is : 14 * ((n + 202) / 203) + 5 * n ≡ length (plan_of goals)
    size_is = rw e (sym (plan_length (length (entries_from goals 0)) 0 (entries_from goals 0) (omega arith) entries_good))
