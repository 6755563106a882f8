-- Agreement with header, ID and length field: what a beginning says of the whole, and the whole of its beginning.
use mathlib.Core.Path.{◌≡◌, refl, sym, ap, ◌∙◌}
use mathlib.Core.Bool.{Bool, true, false, ◌&&◌}
use mathlib.Core.List.{List, ◌++◌}
use Prim.Native.Nat.{ℕ, ◌+◌, ◌≤◌}
use native.Mathlib.Omega.{arith}
use lib.Dec.{leb, ltb, eqb}
use lib.ListN.{length, take, get_or, length-append, get_or-append}
use borrow.Author.Tests.{eqb-true, leb-true, ltb-false, le-ltb}
use Rattle.lists.proofs.Bools.{and_left, and_right, or_right}
use Rattle.packet_rules.specs.Shape.{so_far}
use Rattle.packet_rules.proofs.Bytes.{passes, same_test, passes_before}
use Rattle.packet_front.specs.Front.{header, good_id, length_of}
use Rattle.packet_front.proofs.Lists.{take_four}
use Rattle.packet_front.specs.Header.{front_agrees, length_agrees, size_of}

-- the five tests of header and ID
pub record Front (s : List ℕ) : Type 0 where
  pub first : so_far s 0 (eqb 0xFF) ≡ true
  pub second : so_far s 1 (eqb 0xFF) ≡ true
  pub third : so_far s 2 (eqb 0xFD) ≡ true
  pub fourth : so_far s 3 (eqb 0x00) ≡ true
  pub fifth : so_far s 4 good_id ≡ true

pub front_tests : (s : List ℕ) → front_agrees s ≡ true → Front s
unfolding front_agrees
front_tests s e =
    let a = so_far s 0 (eqb 0xFF) in
    let b = so_far s 1 (eqb 0xFF) in
    let c = so_far s 2 (eqb 0xFD) in
    let d = so_far s 3 (eqb 0x00) in
    let f = so_far s 4 good_id in
    let h = and_left (a && (b && (c && d))) f e in
    let r₁ = and_right a (b && (c && d)) h in
    let r₂ = and_right b (c && d) r₁ in
    record {
      first = and_left a (b && (c && d)) h;
      second = and_left b (c && d) r₁;
      third = and_left c d r₂;
      fourth = and_right c d r₂;
      fifth = and_right (a && (b && (c && d))) f e;
    }

pub front_agrees_lem : (s : List ℕ) → Front s → front_agrees s ≡ true
unfolding front_agrees
front_agrees_lem s f = rw (f.first, f.second, f.third, f.fourth, f.fifth)

-- so the first four bytes are the header
pub front_header : (s : List ℕ) → Front s → 4 ≤ length s → take 4 s ≡ header
front_header s f h =
    take_four s 0xFF 0xFF 0xFD 0x00 h
    (sym (eqb-true 0xFF (get_or s 0 0) (passes (eqb 0xFF) 0 s f.first (omega arith))))
    (sym (eqb-true 0xFF (get_or s 1 0) (passes (eqb 0xFF) 1 s f.second (omega arith))))
    (sym (eqb-true 0xFD (get_or s 2 0) (passes (eqb 0xFD) 2 s f.third (omega arith))))
    (sym (eqb-true 0x00 (get_or s 3 0) (passes (eqb 0x00) 3 s f.fourth (omega arith))))

module _ (a b : List ℕ) where
  pub front_before : front_agrees (a ++ b) ≡ true → front_agrees a ≡ true
  front_before e =
      let f = front_tests (a ++ b) e in
      front_agrees_lem a
      (record {
        first = passes_before (eqb 0xFF) 0 a b f.first;
        second = passes_before (eqb 0xFF) 1 a b f.second;
        third = passes_before (eqb 0xFD) 2 a b f.third;
        fourth = passes_before (eqb 0x00) 3 a b f.fourth;
        fifth = passes_before good_id 4 a b f.fifth;
      })

  pub front_same : 5 ≤ length a → front_agrees (a ++ b) ≡ front_agrees a
  unfolding front_agrees
  front_same h =
      cc (
        same_test (eqb 0xFF) 0 a b (omega arith),
        same_test (eqb 0xFF) 1 a b (omega arith),
        same_test (eqb 0xFD) 2 a b (omega arith),
        same_test (eqb 0x00) 3 a b (omega arith),
        same_test good_id 4 a b (omega arith),
      )

  -- the length field, once its second byte is there
  pub field_same : 7 ≤ length a → length_of (a ++ b) ≡ length_of a
  unfolding length_of
  field_same h = rw (get_or-append a b 0 5 (omega arith), get_or-append a b 0 6 (omega arith))

  pub size_same : 7 ≤ length a → size_of (a ++ b) ≡ size_of a
  size_same h = ap (λ (n : ℕ). 7 + n) (field_same h)

  pub length_same : 7 ≤ length a → length_agrees (a ++ b) ≡ length_agrees a
  unfolding length_agrees
  length_same h = rw (le-ltb (length (a ++ b)) 7 (simp length-append (omega arith)), le-ltb (length a) 7 h, field_same h)

  pub length_before : length_agrees (a ++ b) ≡ true → length_agrees a ≡ true
  unfolding length_agrees
  length_before e = go (ltb (length a) 7) refl
    where
      go : (x : Bool) → ltb (length a) 7 ≡ x → length_agrees a ≡ true
      go true l = rw l
      go false l = sym (length_same (ltb-false (length a) 7 l)) ∙ e

-- the field's bounds
pub length_bounds : (s : List ℕ) → length_agrees s ≡ true → 7 ≤ length s → (3 ≤ length_of s) × (length_of s ≤ 1024)
unfolding length_agrees
length_bounds s e h =
    let l = leb 3 (length_of s) in
    let u = leb (length_of s) 1024 in
    let r = or_right (ltb (length s) 7) (l && u) e (le-ltb (length s) 7 h) in
    (leb-true 3 (length_of s) (and_left l u r), leb-true (length_of s) 1024 (and_right l u r))
