-- The round trip: packets that are written, and packets that keep the rules, are the same.
use mathlib.Core.Path.{◌≡◌, refl, sym, ap, ap₂, ◌∙◌}
use mathlib.Core.Bool.{Bool, true}
use mathlib.Core.List.{List, [], ◌∷◌, ◌++◌}
use Prim.Native.Nat.{ℕ, ◌+◌, ◌-◌, ◌≤◌, ◌<◌}
use native.Mathlib.Omega.{arith}
use lib.Dec.{eqb}
use lib.ListN.{length, take, drop, get_or, length-append, length-take, length-drop}
use lib.Seq.{take_at, get_or_at, get_or-drop}
use borrow.Author.Tests.{eqb-true, eq-eqb}
use Rattle.reading.specs.Rules.{is_packet}
use Rattle.packet_rules.specs.Shape.{verdict}
use Rattle.packet_v1.specs.Packet.{header, id_of, length_of, body_of, checksum_of, checksum_right, WellFormed}
use Rattle.packet_v1.specs.Verdict.{shape_for}
use Rattle.packet_v1.proofs.Laws.{laws}
use Rattle.packet_encoder_v1.specs.Writing.{covered, packet_of}
use Rattle.packet_encoder_v1.specs.RoundTrip.{RoundTrip}
use Rattle.packet_encoder_v1.proofs.Lists.{four_apart, last_one}
use Rattle.packet_encoder_v1.proofs.Writing.{packet_length}

-- the test of the checksum, where it follows the bytes s that it covers
sum_test : (s : List ℕ) (x : ℕ) → checksum_right (header ++ (s ++ x ∷ [])) ≡ eqb x (checksum_of s)
unfolding checksum_right
sum_test s x =
    let w = header ++ (s ++ x ∷ []) in
    let n : length w ≡ length s + 3 = simp length-append (omega arith) in
    let a : length w - 1 ≡ length s + 2 = omega arith in
    let b : length w - 3 ≡ length s = omega arith in
    ap₂ (λ (i k : ℕ). eqb (get_or w i 0) (checksum_of (take k (s ++ x ∷ [])))) a b
    ∙ ap₂ (λ (b : ℕ) (t : List ℕ). eqb b (checksum_of t))
    (get_or_at (header ++ s) x [] 0 (length s + 2) (omega arith)) (take_at s (x ∷ []) (length s) refl)

-- ---- a packet that was written

module _ (id : ℕ) (body : List ℕ) where
  same_id : id_of (packet_of id body) ≡ id
  unfolding packet_of
  same_id = refl

  headed : take 2 (packet_of id body) ≡ header
  unfolding packet_of
  headed = refl

  field_is : length_of (packet_of id body) ≡ length body + 1
  unfolding packet_of
  field_is = refl

  same_body : body_of (packet_of id body) ≡ body
  unfolding packet_of body_of
  same_body = take_at body _ (length (packet_of id body) - 5) (omega (arith, packet_length id body))

  sum_is : checksum_right (packet_of id body) ≡ true
  unfolding packet_of
  sum_is = sum_test (covered id body) (checksum_of (covered id body)) ∙ eq-eqb _ (checksum_of (covered id body)) refl

-- ---- a packet that keeps the rules

module _ (good : ℕ → Bool) where
  well_formed : (id : ℕ) (body : List ℕ) → good id ≡ true → 0 < length body → length body + 1 ≤ 255 → WellFormed good (packet_of id body)
  well_formed id body allowed some fits =
      let f = field_is id body in
      let n = packet_length id body in
      record {
        headed = headed id body;
        identified = ap good (same_id id body) ∙ allowed;
        shortest = omega arith;
        longest = omega arith;
        counted = omega arith;
        summed = sum_is id body;
      }

  found : (id : ℕ) (body x : List ℕ) → good id ≡ true → 0 < length body → length body + 1 ≤ 255
      → verdict (shape_for good) (packet_of id body ++ x) ≡ is_packet (length (packet_of id body))
  found id body x allowed some fits = (laws good).whole (packet_of id body) x (well_formed id body allowed some fits)

  module _ (w : List ℕ) (f : WellFormed good w) where
    long : 6 ≤ length w
    long = omega (arith, f.counted, f.shortest)

    body_length : length (body_of w) ≡ length w - 5
    unfolding body_of
    body_length = let l = long in simp (length-take, length-drop) (omega arith)

    -- the checksum's byte
    abbrev last : ℕ
    last = get_or w (length w - 1) 0

    bodied : body_of w ++ last ∷ [] ≡ drop 4 w
    unfolding body_of
    bodied =
        let l = long in
        let n = length w - 5 in
        let a : 4 + n ≡ length w - 1 = omega arith in
        ap (λ (x : ℕ). take n (drop 4 w) ++ x ∷ []) (ap (λ (i : ℕ). get_or w i 0) (sym a) ∙ sym (get_or-drop 4 w n 0))
        ∙ last_one (drop 4 w) n (simp length-drop (omega arith))

    parts : header ++ (covered (id_of w) (body_of w) ++ last ∷ []) ≡ w
    parts =
        let l = long in
        let n : length (body_of w) + 1 ≡ length_of w = omega (arith, body_length, f.counted) in
        ap₂ (λ (k : ℕ) (t : List ℕ). header ++ (id_of w ∷ k ∷ t)) n bodied
        ∙ ap (λ (h : List ℕ). h ++ (id_of w ∷ length_of w ∷ drop 4 w)) (sym f.headed)
        ∙ four_apart w (omega arith)

    rewritten : packet_of (id_of w) (body_of w) ≡ w
    unfolding packet_of
    rewritten =
        let e : last ≡ checksum_of (covered (id_of w) (body_of w)) =
        eqb-true last (checksum_of (covered (id_of w) (body_of w)))
        (sym (sum_test (covered (id_of w) (body_of w)) last) ∙ ap checksum_right parts ∙ f.summed) in
        ap (λ (x : ℕ). header ++ (covered (id_of w) (body_of w) ++ x ∷ [])) (sym e) ∙ parts

    accepted : (good (id_of w) ≡ true) × (0 < length (body_of w)) × (length (body_of w) + 1 ≤ 255)
    accepted =
        let l = long in
        (f.identified, omega (arith, body_length), omega (arith, body_length, f.counted, f.longest))

  pub round_trip : RoundTrip good
  round_trip =
      record {
        well_formed = well_formed;
        found = found;
        same_id = same_id;
        same_body = same_body;
        rewritten = rewritten;
        accepted = accepted;
      }
