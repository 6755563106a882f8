-- The round trip: packets that are written, and packets that keep the rules, are the same.
use mathlib.Core.Path.{◌≡◌, refl, sym, ap, ap₂, ◌∙◌}
use mathlib.Core.Bool.{true}
use mathlib.Core.List.{List, [], ◌∷◌, ◌++◌, append_assoc}
use Prim.Native.Nat.{ℕ, suc, ◌+◌, ◌-◌, ◌≤◌, ◌<◌}
use native.Mathlib.Omega.{arith}
use lib.ListN.{length, take, drop, get_or, length-take, length-drop}
use lib.Seq.{take_at, get_or-drop}
use borrow.Author.Tests.{eqb-true, eq-eqb}
use Rattle.crc.specs.Crc.{crc_from}
use Rattle.crc.proofs.Laws.{crc_lt}
use Rattle.stuffing.specs.Stuffing.{stuff_after, stuff, unstuff, well_stuffed}
use Rattle.reading.specs.Rules.{is_packet}
use Rattle.packet.specs.Verdict.{verdict}
use Rattle.packet.proofs.Laws.{laws}
use Rattle.stuffing.proofs.Laws.{unstuff_stuff, stuff_unstuff, stuff_well, length_stuff}
use Rattle.packet_front.specs.Front.{word, good_id, id_of, length_of}
use Rattle.packet.specs.Packet.{body_of, checksum_right, WellFormed}
use Rattle.packet_encoder.specs.Writing.{low, high, front, with_checksum, packet_of}
use Rattle.packet_encoder.specs.RoundTrip.{RoundTrip}
use Rattle.lists.specs.Numbers.{Bytes}
use Rattle.lists.proofs.Parts.{last_two}
use Rattle.packet.proofs.Sums.{sum_test}
use Rattle.packet_encoder.proofs.Lists.{seven_apart}
use Rattle.packet_encoder.proofs.Writing.{packet_length}

-- a 16-bit number and its two bytes
halves : (n : ℕ) → n < 65536 → word (low n) (high n) ≡ n
halves n h = omega arith

low_word : (a b : ℕ) → a < 256 → low (word a b) ≡ a
low_word a b h = omega arith

high_word : (a b : ℕ) → a < 256 → b < 256 → high (word a b) ≡ b
high_word a b h k = omega arith

-- ---- a packet that was written

module _ (id : ℕ) (body : List ℕ) where
  same_id : id_of (packet_of id body) ≡ id
  unfolding packet_of with_checksum
  same_id = refl

  first_four : take 4 (packet_of id body) ≡ 0xFF ∷ 0xFF ∷ 0xFD ∷ 0x00 ∷ []
  unfolding packet_of with_checksum
  first_four = refl

  body_is : body_of (packet_of id body) ≡ stuff body
  unfolding packet_of with_checksum body_of
  body_is = take_at (stuff body) _ (length (packet_of id body) - 9) (omega (arith, packet_length id body))

  same_body : unstuff (body_of (packet_of id body)) ≡ body
  same_body = ap unstuff body_is ∙ unstuff_stuff body

  field_is : length (stuff body) + 2 ≤ 1024 → length_of (packet_of id body) ≡ length (stuff body) + 2
  unfolding packet_of with_checksum length_of
  field_is h = halves (length (stuff body) + 2) (omega arith)

  sum_is : checksum_right (packet_of id body) ≡ true
  unfolding packet_of with_checksum
  sum_is =
      let s = front id (length (stuff body)) ++ stuff body in
      let c = crc_from 0 s in
      sum_test s (low c) (high c) ∙ eq-eqb c (word (low c) (high c)) (sym (halves c (crc_lt 0 s (omega arith))))

  well_formed : good_id id ≡ true → 0 < length body → length (stuff body) + 2 ≤ 1024 → WellFormed (packet_of id body)
  well_formed good some fits =
      let f = field_is fits in
      let n = packet_length id body in
      let m = length_stuff body in
      record {
        headed = first_four;
        identified = ap good_id same_id ∙ good;
        shortest = omega arith;
        longest = omega arith;
        counted = omega arith;
        summed = sum_is;
        stuffed = ap well_stuffed body_is ∙ stuff_well body;
      }

-- ---- a packet that keeps the rules

module _ (w : List ℕ) (bytes : Bytes w) (f : WellFormed w) where
  long : 10 ≤ length w
  long = omega (arith, f.counted, f.shortest)

  field : length w - 9 + 2 ≡ word (get_or w 5 0) (get_or w 6 0)
  unfolding length_of
  field = omega (arith, f.counted, f.shortest)

  fronted : front (id_of w) (length w - 9) ++ drop 7 w ≡ w
  fronted =
      let l = long in
      cc (
        seven_apart w (omega arith),
        f.headed,
        ap low field ∙ low_word (get_or w 5 0) (get_or w 6 0) (bytes 5),
        ap high field ∙ high_word (get_or w 5 0) (get_or w 6 0) (bytes 5) (bytes 6),
      )

  -- the checksum's two bytes
  abbrev first : ℕ
  first = get_or w (length w - 2) 0

  abbrev second : ℕ
  second = get_or w (length w - 1) 0

  bodied : body_of w ++ first ∷ second ∷ [] ≡ drop 7 w
  unfolding body_of
  bodied =
      let l = long in
      let n = length w - 9 in
      let a : 7 + n ≡ length w - 2 = omega arith in
      let b : 7 + suc n ≡ length w - 1 = omega arith in
      ap₂ (λ (x y : ℕ). take n (drop 7 w) ++ x ∷ y ∷ [])
      (ap (λ (i : ℕ). get_or w i 0) (sym a) ∙ sym (get_or-drop 7 w n 0))
      (ap (λ (i : ℕ). get_or w i 0) (sym b) ∙ sym (get_or-drop 7 w (suc n) 0))
      ∙ last_two (drop 7 w) n (simp length-drop (omega arith))

  body_length : length (body_of w) ≡ length w - 9
  unfolding body_of
  body_length = let l = long in simp (length-take, length-drop) (omega arith)

  abbrev summed : List ℕ
  summed = front (id_of w) (length (body_of w)) ++ body_of w

  parts : summed ++ first ∷ second ∷ [] ≡ w
  parts =
      ap (λ (k : ℕ). (front (id_of w) k ++ body_of w) ++ first ∷ second ∷ []) body_length
      ∙ append_assoc (front (id_of w) (length w - 9)) (body_of w) (first ∷ second ∷ [])
      ∙ ap (λ (l : List ℕ). front (id_of w) (length w - 9) ++ l) bodied ∙ fronted

  sum : crc_from 0 summed ≡ word first second
  sum =
      eqb-true (crc_from 0 summed) (word first second)
      (sym (sum_test summed first second) ∙ ap checksum_right parts ∙ f.summed)

  rewritten : packet_of (id_of w) (unstuff (body_of w)) ≡ w
  unfolding packet_of with_checksum
  rewritten =
      ap (λ (s : List ℕ). with_checksum (front (id_of w) (length s) ++ s)) (stuff_unstuff (body_of w) f.stuffed)
      ∙ ap₂ (λ (x y : ℕ). summed ++ x ∷ y ∷ [])
      (ap low sum ∙ low_word first second (bytes (length w - 2)))
      (ap high sum ∙ high_word first second (bytes (length w - 2)) (bytes (length w - 1)))
      ∙ parts

-- a stuffed form that is not empty is that of a body that is not empty
some_body : (u : List ℕ) → 0 < length (stuff u) → 0 < length u
unfolding stuff_after
some_body [] h = h
some_body (x ∷ u) h = omega arith

accepted : (w : List ℕ) → WellFormed w
    → (good_id (id_of w) ≡ true) × (0 < length (unstuff (body_of w))) × (length (stuff (unstuff (body_of w))) + 2 ≤ 1024)
unfolding body_of
accepted w f =
    let n : length (body_of w) ≡ length w - 9 = simp (length-take, length-drop) (omega (arith, f.counted, f.shortest)) in
    let e : length (stuff (unstuff (body_of w))) ≡ length w - 9 = ap length (stuff_unstuff (body_of w) f.stuffed) ∙ n in
    (f.identified, some_body (unstuff (body_of w)) (omega (arith, f.counted, f.shortest)), omega (arith, f.counted, f.longest))

found : (id : ℕ) (body x : List ℕ) → good_id id ≡ true → 0 < length body → length (stuff body) + 2 ≤ 1024
    → verdict (packet_of id body ++ x) ≡ is_packet (length (packet_of id body))
found id body x good some fits = laws.whole (packet_of id body) x (well_formed id body good some fits)

pub round_trip : RoundTrip
round_trip =
    record {
      well_formed = well_formed;
      found = found;
      same_id = same_id;
      same_body = same_body;
      rewritten = rewritten;
      accepted = accepted;
    }
