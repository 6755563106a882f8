-- Bytes that are written over those that were read: what is behind the place of reading is as it was.
use mathlib.Core.Path.{◌≡◌, refl, sym, ap, ◌∙◌}
use mathlib.Core.Bool.{true, false, cond}
use mathlib.Core.List.{List, [], ◌∷◌, ◌++◌}
use Prim.Native.Nat.{ℕ, ◌+◌, ◌-◌, ◌≤◌, ◌<◌}
use native.Mathlib.Numerals.{add-one}
use native.Mathlib.Omega.{arith}
use lib.ListN.{length, take, drop, get_or, set, drop_of_length-le, length-append, take-append-drop}
use lib.Seq.{length-take-le, take_at, drop-cons, drop_at, drop-drop}
use Rattle.lists.specs.Write.{overwritten}
use Rattle.lists.proofs.Filling.{Filling, fill_next, fill_done, fill_count, fill_length}
use Rattle.stuffing.specs.Stuffing.{mark, unstuff_after, unstuff}
use Rattle.stuffing_in_place.specs.Plain.{Plain}

-- i bytes of `old` are read, the last three of which are a, b, c, and j of what comes of them are written, not more than were read
pub record Within (old body : List ℕ) (a b c j i : ℕ) : Type 0 where
  pub read : i ≤ length old
  pub back : j ≤ i
  pub fill : Filling (unstuff old) old body j (unstuff_after a b c (drop i old))

pub starts : (old : List ℕ) (n : ℕ) → Plain old n → Within old old 0 0 0 n n
starts old n p =
    let l : length (take n old) ≡ n = length-take-le n old p.0 in
    record {
      read = p.0;
      back = omega arith;
      fill = record {
        holds = sym (take-append-drop n old)
            ∙ ap (λ (s : List ℕ). s ++ drop n old) (sym (ap (λ (s : List ℕ). take n s) p.1 ∙ take_at (take n old) (unstuff (drop n old)) n l));
        rest = ap (λ (s : List ℕ). drop n s) p.1 ∙ drop_at (take n old) (unstuff (drop n old)) n l;
        within = omega (arith, ap length p.1, length-append (take n old) (unstuff (drop n old)), l);
        fits = p.0;
      };
    }

unmarked_after : (a b c : ℕ) (s : List ℕ) → mark a b c ≡ false → unstuff_after a b c s ≡ unstuff_after 0 b c s
unfolding unstuff_after
unmarked_after a b c [] m = refl
unmarked_after a b c (d ∷ s) m = rw m refl

module _ (old body : List ℕ) (a b c j i : ℕ) (w : Within old body a b c j i) where
  pub same_length : length body ≡ length old
  same_length = fill_length (unstuff old) old body j _ w.fill

  -- what is still to be read
  same_rest : drop i body ≡ drop i old
  same_rest =
      let n = w.back in
      let e : j + (i - j) ≡ i = omega arith in
      let l : length (take j (unstuff old)) ≡ j = length-take-le j (unstuff old) w.fill.within in
      let at_j : drop j body ≡ drop j old = ap (λ (s : List ℕ). drop j s) w.fill.holds ∙ drop_at (take j (unstuff old)) (drop j old) j l in
      ap (λ (k : ℕ). drop k body) (sym e)
      ∙ sym (drop-drop (i - j) j body)
      ∙ ap (λ (s : List ℕ). drop (i - j) s) at_j
      ∙ drop-drop (i - j) j old
      ∙ ap (λ (k : ℕ). drop k old) e

  module _ (h : i < length body) where
    h' : i < length old
    h' = omega (arith, same_length)

    same_byte : get_or body i 0 ≡ get_or old i 0
    same_byte = cc (drop-cons body i 0 h, drop-cons old i 0 h', same_rest)

    turn : unstuff_after a b c (drop i old)
        ≡ cond (mark a b c) (unstuff_after b c (get_or body i 0) (drop (i + 1) old)) (get_or body i 0 ∷ unstuff_after b c (get_or body i 0) (drop (i + 1) old))
    unfolding unstuff_after
    turn = rw (add-one, same_byte, drop-cons old i 0 h') refl

    pub kept : mark a b c ≡ false → Within old (set body j (get_or body i 0)) b c (get_or body i 0) (j + 1) (i + 1)
    kept m =
        let k = w.back in
        let r = w.read in
        record {
          read = omega (arith, h');
          back = omega arith;
          fill = fill_next (unstuff old) old body j (get_or body i 0) (unstuff_after b c (get_or body i 0) (drop (i + 1) old))
              (rw (turn, m) at w.fill) (omega (arith, h'));
        }

    pub skipped : mark a b c ≡ true → Within old body b c (get_or body i 0) j (i + 1)
    skipped m =
        let k = w.back in
        record { read = omega (arith, h'); back = omega arith; fill = rw (turn, m) at w.fill }

  -- where no mark ends with them, the first of the last three does not matter
  pub forgotten : mark a b c ≡ false → Within old body 0 b c j i
  forgotten m = record { read = w.read; back = w.back; fill = rw (unmarked_after a b c (drop i old) m) at w.fill }

  module _ (h : length body ≤ i) where
    ended : Filling (unstuff old) old body j []
    unfolding unstuff_after
    ended =
        let l : length old ≤ i = omega (arith, same_length) in
        let e : drop i old ≡ [] = drop_of_length-le old l in
        rw e at w.fill

    pub left_count : j ≡ length (unstuff old)
    left_count = fill_count (unstuff old) old body j ended

    pub left_bytes : body ≡ overwritten old (unstuff old)
    left_bytes = fill_done (unstuff old) old body j ended
