-- One byte, or two side by side, changed between length field and checksum: the checksum shows it.
use mathlib.Core.Path.{◌≡◌, refl, sym, ap, ◌∙◌}
use mathlib.Core.Bool.{Bool, true, false}
use mathlib.Core.List.{List, [], ◌∷◌, ◌++◌, append_assoc}
use Prim.Native.Nat.{ℕ, suc, ◌-◌}
use native.Mathlib.Omega.{arith}
use lib.Dec.{eqb}
use lib.ListN.{length, take, get_or, length-append, get_or-append}
use borrow.Author.Tests.{eqb-true}
use Rattle.lists.proofs.Bools.{both_ways}
use Rattle.lists.proofs.Parts.{last_two}
use Rattle.reading.specs.Rules.{is_bad_checksum}
use Rattle.crc.specs.Crc.{crc_from}
use Rattle.crc.proofs.Detects.{few_changed}
use Rattle.packet_front.specs.Front.{word, id_of}
use Rattle.packet_front.specs.Header.{size_of}
use Rattle.packet_front.proofs.Agreement.{size_same}
use Rattle.packet.specs.Packet.{checksum_right, WellFormed}
use Rattle.packet.specs.Verdict.{verdict}
use Rattle.packet.specs.Burst.{Replaced, BurstDetected}
use Rattle.packet.proofs.Sums.{sum_test}
use Rattle.packet.proofs.Laws.{agrees, agrees_same, well_agrees, ruled_alone, laws}

module _ (a d d' z : List ℕ) (s : Replaced a d d' z) (f : WellFormed (a ++ (d ++ z))) where
  -- what is summed behind the change, and the checksum's two bytes
  abbrev y : List ℕ
  y = take (length z - 2) z

  abbrev first : ℕ
  first = get_or z (length z - 2) 0

  abbrev second : ℕ
  second = get_or z (suc (length z - 2)) 0

  ends : y ++ first ∷ second ∷ [] ≡ z
  ends = last_two z (length z - 2) (omega (arith, s.before))

  -- the test, with d or with d'
  test : (e : List ℕ) → checksum_right (a ++ (e ++ z)) ≡ eqb (crc_from 0 (a ++ (e ++ y))) (word first second)
  test e =
      ap (λ (l : List ℕ). checksum_right (a ++ (e ++ l))) (sym ends)
      ∙ ap checksum_right (sym regroup)
      ∙ sum_test (a ++ (e ++ y)) first second
    where
      regroup : (a ++ (e ++ y)) ++ first ∷ second ∷ [] ≡ a ++ (e ++ (y ++ first ∷ second ∷ []))
      regroup = simp append_assoc

  right : (e : List ℕ) → checksum_right (a ++ (e ++ z)) ≡ true → crc_from 0 (a ++ (e ++ y)) ≡ word first second
  right e t = eqb-true (crc_from 0 (a ++ (e ++ y))) (word first second) (sym (test e) ∙ t)

  wrong : checksum_right (a ++ (d' ++ z)) ≡ false
  wrong = go (checksum_right (a ++ (d' ++ z))) refl
    where
      go : (t : Bool) → checksum_right (a ++ (d' ++ z)) ≡ t → t ≡ false
      go false e = refl
      go true e =
          absurd (s.changed
          (few_changed 0 a d d' y s.few s.as_many s.bytes.0 s.bytes.1 (right d' e ∙ sym (right d f.summed))))

  refused : ¬ WellFormed (a ++ (d' ++ z))
  refused g = both_ways (checksum_right (a ++ (d' ++ z))) g.summed wrong

  -- front and length are those of the packet
  same_length : length (a ++ (d' ++ z)) ≡ length (a ++ (d ++ z))
  same_length = simp length-append (omega (arith, s.as_many))

  front_good : agrees (a ++ (d' ++ z)) ≡ true
  front_good = agrees_same a (d' ++ z) s.behind ∙ sym (agrees_same a (d ++ z) s.behind) ∙ well_agrees (a ++ (d ++ z)) f

  same_size : size_of (a ++ (d' ++ z)) ≡ length (a ++ (d' ++ z))
  same_size =
      size_same a (d' ++ z) s.behind ∙ sym (size_same a (d ++ z) s.behind) ∙ sym f.counted ∙ sym same_length

  same_id : id_of (a ++ (d' ++ z)) ≡ id_of (a ++ (d ++ z))
  same_id =
      get_or-append a (d' ++ z) 0 4 (omega (arith, s.behind)) ∙ sym (get_or-append a (d ++ z) 0 4 (omega (arith, s.behind)))

  bad : verdict (a ++ (d' ++ z)) ≡ is_bad_checksum (id_of (a ++ (d ++ z)))
  bad =
      ruled_alone (a ++ (d' ++ z)) front_good (simp length-append (omega (arith, s.behind))) same_size
      ∙ rw wrong (ap is_bad_checksum same_id)

  reported : (x : List ℕ) → verdict ((a ++ (d' ++ z)) ++ x) ≡ is_bad_checksum (id_of (a ++ (d ++ z)))
  reported x = let b = bad in laws.stays (a ++ (d' ++ z)) x (λ e. let n : ◌≡◌ {A = ℕ} 0 1 = cc in absurd (omega arith)) ∙ b

pub burst_detected : BurstDetected
burst_detected = record { refused = refused; reported = λ a d d' z x s f. reported a d d' z s f x }
