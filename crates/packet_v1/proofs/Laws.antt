-- The packet rules of Protocol 1.0 and Mercury keep the laws of packet rules, whichever IDs are allowed.
use mathlib.Core.Path.{◌≡◌, refl, sym, ap, ap₂, ◌∙◌}
use mathlib.Core.Bool.{Bool, true, false, cond, ◌&&◌}
use mathlib.Core.List.{List, [], ◌∷◌, ◌++◌}
use Prim.Native.Nat.{ℕ, ◌+◌, ◌≤◌}
use native.Mathlib.Omega.{arith}
use lib.Dec.{leb, ltb, eqb}
use lib.ListN.{length, take, get_or, length-append, get_or-append}
use borrow.Author.Tests.{eqb-true, eq-eqb, leb-true, lt-ltb, le-ltb, le-leb, ltb-false}
use Rattle.lists.proofs.Bools.{and_left, and_right, or_right}
use Rattle.reading.specs.Rules.{Verdict, Laws, is_packet, is_bad_checksum, is_waiting, is_nothing}
use Rattle.reading.specs.Progress.{Settles}
use Rattle.packet_rules.specs.Shape.{so_far, rules}
use Rattle.packet_rules.specs.Answers.{settled_by}
use Rattle.packet_rules.proofs.Asked.{ShapeLaws}
use Rattle.packet_rules.proofs.Bytes.{passes, passed, same_test, passes_before}
use Rattle.packet_rules.proofs.Laws.{laws as rule-laws}
use Rattle.packet_rules.proofs.Settled.{settles as rule-settles}
use Rattle.packet_v1.specs.Packet.{header, id_of, length_of, checksum_right, WellFormed}
use Rattle.packet_v1.specs.Verdict.{front_agrees, length_agrees, may_begin, size_of, judged, shape_for}
use Rattle.packet_v1.proofs.Lengths.{length_good}

-- ---- the first two bytes

take_two : (w : List ℕ) (a b : ℕ) → 2 ≤ length w → get_or w 0 0 ≡ a → get_or w 1 0 ≡ b → take 2 w ≡ a ∷ b ∷ []
take_two [] a b h p q = absurd (omega arith)
take_two (x0 ∷ []) a b h p q = absurd (omega arith)
take_two (x0 ∷ x1 ∷ w) a b h p q = cc

two_taken : (w : List ℕ) → take 2 w ≡ header → (get_or w 0 0 ≡ 0xFF) × (get_or w 1 0 ≡ 0xFF)
two_taken [] e = let z : ◌≡◌ {A = ℕ} 0 1 = cc in absurd (omega arith)
two_taken (x0 ∷ []) e = let z : ◌≡◌ {A = ℕ} 0 1 = cc in absurd (omega arith)
two_taken (x0 ∷ x1 ∷ w) e = (cc, cc)

-- ---- the length byte

module _ (a b : List ℕ) where
  field_same : 4 ≤ length a → length_of (a ++ b) ≡ length_of a
  field_same h = get_or-append a b 0 3 (omega arith)

  length_same : 4 ≤ length a → length_agrees (a ++ b) ≡ length_agrees a
  unfolding length_agrees
  length_same h = rw (le-ltb (length (a ++ b)) 4 (simp length-append (omega arith)), le-ltb (length a) 4 h, field_same h)

  length_before : length_agrees (a ++ b) ≡ true → length_agrees a ≡ true
  unfolding length_agrees
  length_before e = go (ltb (length a) 4) refl
    where
      go : (x : Bool) → ltb (length a) 4 ≡ x → length_agrees a ≡ true
      go true l = rw l
      go false l = sym (length_same (ltb-false (length a) 4 l)) ∙ e

length_bounds : (s : List ℕ) → length_agrees s ≡ true → 4 ≤ length s → (2 ≤ length_of s) × (length_of s ≤ 255)
unfolding length_agrees
length_bounds s e h =
    let l = leb 2 (length_of s) in
    let u = leb (length_of s) 255 in
    let r = or_right (ltb (length s) 4) (l && u) e (le-ltb (length s) 4 h) in
    (leb-true 2 (length_of s) (and_left l u r), leb-true (length_of s) 255 (and_right l u r))

-- ---- the verdict on all bytes of a packet

abbrev judging : Bool → Bool → ℕ → ℕ → Verdict
judging a b n id = cond a (cond b (is_packet n) (is_bad_checksum id)) is_nothing

judging_packet : (a b : Bool) (n id m : ℕ) → judging a b n id ≡ is_packet m → (b ≡ true) × (n ≡ m)
judging_packet false b n id m e = let z : ◌≡◌ {A = ℕ} 0 1 = cc in absurd (omega arith)
judging_packet true false n id m e = let z : ◌≡◌ {A = ℕ} 0 1 = cc in absurd (omega arith)
judging_packet true true n id m e = (refl, cc)

judging_waits : (a b : Bool) (n id : ℕ) → ¬ (judging a b n id ≡ is_waiting)
judging_waits false b n id e = let z : ◌≡◌ {A = ℕ} 0 1 = cc in absurd (omega arith)
judging_waits true false n id e = let z : ◌≡◌ {A = ℕ} 0 1 = cc in absurd (omega arith)
judging_waits true true n id e = let z : ◌≡◌ {A = ℕ} 0 1 = cc in absurd (omega arith)

module _ (w : List ℕ) where
  judged_packet : (n : ℕ) → judged w ≡ is_packet n → (checksum_right w ≡ true) × (length w ≡ n)
  judged_packet n e = judging_packet (leb 6 (length w)) (checksum_right w) (length w) (id_of w) n e

  judged_right : 6 ≤ length w → checksum_right w ≡ true → judged w ≡ is_packet (length w)
  judged_right h e = ap₂ (λ (a b : Bool). judging a b (length w) (id_of w)) (le-leb 6 (length w) h) e

-- ---- header and ID

module _ (good : ℕ → Bool) where
  -- the three tests
  record Front (s : List ℕ) : Type 0 where
    first : so_far s 0 (eqb 0xFF) ≡ true
    second : so_far s 1 (eqb 0xFF) ≡ true
    third : so_far s 2 good ≡ true

  front_tests : (s : List ℕ) → front_agrees good s ≡ true → Front s
  unfolding front_agrees
  front_tests s e =
      let a = so_far s 0 (eqb 0xFF) in
      let b = so_far s 1 (eqb 0xFF) in
      let c = so_far s 2 good in
      let r = and_right a (b && c) e in
      record { first = and_left a (b && c) e; second = and_left b c r; third = and_right b c r }

  front_agrees_lem : (s : List ℕ) → Front s → front_agrees good s ≡ true
  unfolding front_agrees
  front_agrees_lem s f = rw (f.first, f.second, f.third)

  module _ (a b : List ℕ) where
    front_before : front_agrees good (a ++ b) ≡ true → front_agrees good a ≡ true
    front_before e =
        let f = front_tests (a ++ b) e in
        front_agrees_lem a
        (record {
          first = passes_before (eqb 0xFF) 0 a b f.first;
          second = passes_before (eqb 0xFF) 1 a b f.second;
          third = passes_before good 2 a b f.third;
        })

    front_same : 3 ≤ length a → front_agrees good (a ++ b) ≡ front_agrees good a
    unfolding front_agrees
    front_same h =
        cc (same_test (eqb 0xFF) 0 a b (omega arith), same_test (eqb 0xFF) 1 a b (omega arith), same_test good 2 a b (omega arith))

  -- ---- the shape

  abbrev agrees : List ℕ → Bool
  agrees s = front_agrees good s && length_agrees s

  parts : (s : List ℕ) → agrees s ≡ true → (front_agrees good s ≡ true) × (length_agrees s ≡ true)
  parts s e = (and_left (front_agrees good s) (length_agrees s) e, and_right (front_agrees good s) (length_agrees s) e)

  pub both : (s : List ℕ) → front_agrees good s ≡ true → length_agrees s ≡ true → agrees s ≡ true
  both s f l = rw (f, l)

  agrees_before : (a b : List ℕ) → agrees (a ++ b) ≡ true → agrees a ≡ true
  agrees_before a b e = let p = parts (a ++ b) e in both a (front_before a b p.0) (length_before a b p.1)

  agrees_same : (a b : List ℕ) → 4 ≤ length a → agrees (a ++ b) ≡ agrees a
  agrees_same a b h = cc (front_same a b (omega arith), length_same a b h)

  formed : (w : List ℕ) → agrees w ≡ true → 4 ≤ length w → length w ≡ size_of w → judged w ≡ is_packet (length w) → WellFormed good w
  formed w e h n v =
      let p = parts w e in
      let f = front_tests w p.0 in
      let b = length_bounds w p.1 h in
      record {
        headed =
            take_two w 0xFF 0xFF (omega arith)
            (sym (eqb-true 0xFF (get_or w 0 0) (passes (eqb 0xFF) 0 w f.first (omega arith))))
            (sym (eqb-true 0xFF (get_or w 1 0) (passes (eqb 0xFF) 1 w f.second (omega arith))));
        identified = passes good 2 w f.third (omega arith);
        shortest = b.0;
        longest = b.1;
        counted = n;
        summed = (judged_packet w (length w) v).0;
      }

  passing : (w : List ℕ) → WellFormed good w
      → (agrees w ≡ true) × (4 ≤ length w) × (length w ≡ size_of w) × (judged w ≡ is_packet (length w))
  passing w f =
      let h : 6 ≤ length w = omega (arith, f.counted, f.shortest) in
      let t = two_taken w f.headed in
      let front =
      front_agrees_lem w
      (record {
        first = passed (eqb 0xFF) 0 w (eq-eqb 0xFF (get_or w 0 0) (sym t.0));
        second = passed (eqb 0xFF) 1 w (eq-eqb 0xFF (get_or w 1 0) (sym t.1));
        third = passed good 2 w f.identified;
      }) in
      (both w front (length_good w (omega arith) f.shortest f.longest), omega arith, f.counted, judged_right w h f.summed)

  -- where they agree a packet may begin
  pub front_begins : (b : ℕ) (s : List ℕ) → agrees (b ∷ s) ≡ true → may_begin (b ∷ s) ≡ true
  unfolding may_begin
  front_begins b s e =
      let f = front_tests (b ∷ s) (parts (b ∷ s) e).0 in
      let z = eqb-true 0xFF b (passes (eqb 0xFF) 0 (b ∷ s) f.first (omega arith)) in
      rw (lt-ltb 0 (length (b ∷ s)) (omega arith), eq-eqb b 0xFF (sym z))

  pub shape_laws : ShapeLaws (shape_for good)
  shape_laws =
      record {
        some = omega arith;
        fronted = omega arith;
        ordered = omega arith;
        agrees_before = agrees_before;
        agrees_same = agrees_same;
        size_same = λ a b h. ap (λ (n : ℕ). 4 + n) (field_same a b h);
        bounds = λ s e h. let b = length_bounds s (parts s e).1 h in (omega arith, omega arith);
        never_waits = λ w. judging_waits (leb 6 (length w)) (checksum_right w) (length w) (id_of w);
        all_of_it = λ w n e. (judged_packet w n e).1;
        formed = formed;
        passing = passing;
      }

  pub laws : Laws (rules (shape_for good))
  laws = rule-laws (shape_for good) shape_laws

  pub settles : Settles (rules (shape_for good)) (settled_by (shape_for good))
  settles = rule-settles (shape_for good) shape_laws
