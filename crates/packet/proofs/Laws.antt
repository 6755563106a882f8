-- Protocol 2.0 keeps the laws of packet rules.
use mathlib.Core.Path.{◌≡◌, refl, sym, ap, ◌∙◌}
use mathlib.Core.Bool.{Bool, true, false, ◌&&◌}
use mathlib.Core.List.{List, ◌++◌}
use Prim.Native.Nat.{ℕ, ◌≤◌}
use native.Mathlib.Omega.{arith}
use lib.Dec.{eqb}
use lib.ListN.{length, take, get_or}
use lib.Seq.{take-length}
use borrow.Author.Tests.{eq-eqb}
use Rattle.lists.proofs.Bools.{and_left, and_right}
use Rattle.reading.specs.Rules.{Laws, is_packet, is_waiting}
use Rattle.reading.specs.Progress.{Settles}
use Rattle.stuffing.specs.Stuffing.{well_stuffed}
use Rattle.packet_rules.specs.Shape.{verdict}
use Rattle.packet_rules.specs.Answers.{settled_by}
use Rattle.packet_rules.proofs.Asked.{ShapeLaws}
use Rattle.packet_rules.proofs.Bytes.{passes, passed}
use Rattle.packet_rules.proofs.Tests.{completes, judges}
use Rattle.packet_rules.proofs.Laws.{laws as rule-laws}
use Rattle.packet_rules.proofs.Settled.{settles as rule-settles}
use Rattle.packet_front.specs.Front.{good_id, id_of}
use Rattle.packet_front.specs.Header.{front_agrees, length_agrees, size_of}
use Rattle.packet_front.proofs.Lists.{four_taken}
use Rattle.packet_front.proofs.Tests.{both, length_good}
use Rattle.packet_front.proofs.Agreement.{front_header, front_tests, front_agrees_lem, front_before, front_same, size_same, length_same, length_before, length_bounds}
use Rattle.packet.specs.Packet.{body_of, checksum_right, WellFormed}
use Rattle.packet.specs.Verdict.{ruling, judged, shape, protocol2}

abbrev pub agrees : List ℕ → Bool
agrees s = front_agrees s && length_agrees s

parts : (s : List ℕ) → agrees s ≡ true → (front_agrees s ≡ true) × (length_agrees s ≡ true)
parts s e = (and_left (front_agrees s) (length_agrees s) e, and_right (front_agrees s) (length_agrees s) e)

agrees_before : (a b : List ℕ) → agrees (a ++ b) ≡ true → agrees a ≡ true
agrees_before a b e = let p = parts (a ++ b) e in both a (front_before a b p.0) (length_before a b p.1)

pub agrees_same : (a b : List ℕ) → 7 ≤ length a → agrees (a ++ b) ≡ agrees a
agrees_same a b h = cc (front_same a b (omega arith), length_same a b h)

-- ---- the verdict on all bytes of a packet

ruling_packet : (k t : Bool) (n id m : ℕ) → ruling k t n id ≡ is_packet m → (k ≡ true) × (t ≡ true) × (n ≡ m)
ruling_packet false t n id m e = let z : ◌≡◌ {A = ℕ} 0 1 = cc in absurd (omega arith)
ruling_packet true false n id m e = let z : ◌≡◌ {A = ℕ} 0 1 = cc in absurd (omega arith)
ruling_packet true true n id m e = (refl, refl, cc)

ruling_waits : (k t : Bool) (n id : ℕ) → ¬ (ruling k t n id ≡ is_waiting)
ruling_waits false t n id e = let z : ◌≡◌ {A = ℕ} 0 1 = cc in absurd (omega arith)
ruling_waits true false n id e = let z : ◌≡◌ {A = ℕ} 0 1 = cc in absurd (omega arith)
ruling_waits true true n id e = let z : ◌≡◌ {A = ℕ} 0 1 = cc in absurd (omega arith)

judged_packet : (w : List ℕ) (n : ℕ) → judged w ≡ is_packet n
    → (checksum_right w ≡ true) × (well_stuffed (body_of w) ≡ true) × (length w ≡ n)
judged_packet w n e = ruling_packet (checksum_right w) (well_stuffed (body_of w)) (length w) (id_of w) n e

-- where there are no other bytes
pub ruled_alone : (w : List ℕ) → agrees w ≡ true → 7 ≤ length w → size_of w ≡ length w → verdict shape w ≡ judged w
ruled_alone w a h n =
    judges shape w a (completes shape w h (omega arith)) ∙ ap (λ (m : ℕ). judged (take m w)) n ∙ ap judged (take-length w)

-- ---- the shape

module _ (w : List ℕ) (f : WellFormed w) where
  well_front : front_agrees w ≡ true
  well_front =
      front_agrees_lem w
      (record {
        first = passed (eqb 0xFF) 0 w (eq-eqb 0xFF (get_or w 0 0) (sym (four_taken w 0 _ f.headed (omega arith))));
        second = passed (eqb 0xFF) 1 w (eq-eqb 0xFF (get_or w 1 0) (sym (four_taken w 1 _ f.headed (omega arith))));
        third = passed (eqb 0xFD) 2 w (eq-eqb 0xFD (get_or w 2 0) (sym (four_taken w 2 _ f.headed (omega arith))));
        fourth = passed (eqb 0x00) 3 w (eq-eqb 0x00 (get_or w 3 0) (sym (four_taken w 3 _ f.headed (omega arith))));
        fifth = passed good_id 4 w f.identified;
      })

  long : 10 ≤ length w
  long = omega (arith, f.counted, f.shortest)

  pub well_agrees : agrees w ≡ true
  well_agrees = let l = long in both w well_front (length_good w (omega arith) f.shortest f.longest)

  passing : (agrees w ≡ true) × (7 ≤ length w) × (length w ≡ size_of w) × (judged w ≡ is_packet (length w))
  passing = let l = long in (well_agrees, omega arith, f.counted, rw (f.summed, f.stuffed))

-- the tests of the verdict are the rules
formed : (w : List ℕ) → agrees w ≡ true → 7 ≤ length w → length w ≡ size_of w → judged w ≡ is_packet (length w) → WellFormed w
formed w a h n v =
    let p = parts w a in
    let f = front_tests w p.0 in
    let b = length_bounds w p.1 h in
    let j = judged_packet w (length w) v in
    record {
      headed = front_header w f (omega arith);
      identified = passes good_id 4 w f.fifth (omega arith);
      shortest = b.0;
      longest = b.1;
      counted = n;
      summed = j.0;
      stuffed = j.1;
    }

pub shape_laws : ShapeLaws shape
shape_laws =
    record {
      some = omega arith;
      fronted = omega arith;
      ordered = omega arith;
      agrees_before = agrees_before;
      agrees_same = agrees_same;
      size_same = size_same;
      bounds = λ s e h. let b = length_bounds s (parts s e).1 h in (omega arith, omega arith);
      never_waits = λ w. ruling_waits (checksum_right w) (well_stuffed (body_of w)) (length w) (id_of w);
      all_of_it = λ w n e. (judged_packet w n e).2;
      formed = formed;
      passing = passing;
    }

pub laws : Laws protocol2
laws = rule-laws shape shape_laws

pub settles : Settles protocol2 (settled_by shape)
settles = rule-settles shape shape_laws
