-- What a loop over the bytes does with the byte at i, and at the end.
use mathlib.Core.Path.{◌≡◌, refl, sym, ap, ◌∙◌}
use mathlib.Core.Bool.{Bool, true, false, not, cond, ◌&&◌, ◌||◌, true≢false}
use mathlib.Core.List.{List, [], ◌∷◌}
use Prim.Native.Nat.{ℕ, ◌+◌, ◌≤◌, ◌<◌}
use native.Mathlib.Numerals.{add-one}
use native.Mathlib.Omega.{arith}
use native.Mathlib.Decide.{dec_lt, ℕ_discrete}
use lib.Dec.{eqb}
use lib.ListN.{length, get_or, drop, drop_of_length-le}
use lib.Seq.{drop-cons}
use borrow.Author.Tests.{eq-eqb, ne_eqb}
use Rattle.stuffing.specs.Stuffing.{mark, mark_at, well_after, unstuff_after}
use Rattle.stuffing.proofs.Mark.{mark_last, no_mark}

-- The bytes of s from i on, after the three that stand before them.

module _ (s : List ℕ) (i : ℕ) where
  abbrev pub well_at : Bool
  well_at = well_after (get_or (0 ∷ 0 ∷ 0 ∷ s) i 0) (get_or (0 ∷ 0 ∷ s) i 0) (get_or (0 ∷ s) i 0) (drop i s)

  abbrev pub unstuffed_at : List ℕ
  unstuffed_at = unstuff_after (get_or (0 ∷ 0 ∷ 0 ∷ s) i 0) (get_or (0 ∷ 0 ∷ s) i 0) (get_or (0 ∷ s) i 0) (drop i s)

  -- a mark ends right before i
  abbrev pub marked : Bool
  marked = mark (get_or (0 ∷ 0 ∷ 0 ∷ s) i 0) (get_or (0 ∷ 0 ∷ s) i 0) (get_or (0 ∷ s) i 0)

module _ (s : List ℕ) (i : ℕ) where
  pub marked_next : marked s (i + 1) ≡ mark_at 0 s i
  marked_next = rw add-one refl

  well_turn : i < length s → well_at s i ≡ ((not (marked s i) || eqb (get_or s i 0) 0xFD) && well_at s (i + 1))
  unfolding well_after
  well_turn h = rw (add-one, drop-cons s i 0) refl

  unstuff_turn : i < length s → unstuffed_at s i ≡ cond (marked s i) (unstuffed_at s (i + 1)) (get_or s i 0 ∷ unstuffed_at s (i + 1))
  unfolding unstuff_after
  unstuff_turn h = rw (add-one, drop-cons s i 0) refl

  pub well_end : length s ≤ i → well_at s i ≡ not (marked s i)
  unfolding well_after
  well_end h =
      ap (well_after (get_or (0 ∷ 0 ∷ 0 ∷ s) i 0) (get_or (0 ∷ 0 ∷ s) i 0) (get_or (0 ∷ s) i 0)) (drop_of_length-le s h)

  pub unstuff_end : length s ≤ i → unstuffed_at s i ≡ []
  unfolding unstuff_after
  unstuff_end h =
      ap (unstuff_after (get_or (0 ∷ 0 ∷ 0 ∷ s) i 0) (get_or (0 ∷ 0 ∷ s) i 0) (get_or (0 ∷ s) i 0)) (drop_of_length-le s h)

module _ (s : List ℕ) (i : ℕ) (free : marked s i ≡ false) (h : i < length s) where
  pub well_kept : well_at s (i + 1) ≡ well_at s i
  well_kept = sym (well_turn s i h ∙ rw free refl)

  pub unstuff_kept : unstuffed_at s i ≡ get_or s i 0 ∷ unstuffed_at s (i + 1)
  unstuff_kept = unstuff_turn s i h ∙ rw free refl

  -- the byte at i ends a mark
  module _ (m : mark_at 0 s i ≡ true) where
    m' : marked s (i + 1) ≡ true
    m' = marked_next s i ∙ m

    -- none ends with the byte after it
    pub free_after : marked s (i + 1 + 1) ≡ false
    free_after =
        no_mark (get_or (0 ∷ 0 ∷ 0 ∷ s) (i + 1 + 1) 0) (get_or (0 ∷ 0 ∷ s) (i + 1 + 1) 0) (get_or (0 ∷ s) (i + 1 + 1) 0)
        (ap (λ (x : ℕ). eqb x 0xFF) (here ∙ mark_last (get_or (0 ∷ 0 ∷ s) i 0) (get_or (0 ∷ s) i 0) (get_or s i 0) m))
      where
        here : get_or (0 ∷ 0 ∷ s) (i + 1 + 1) 0 ≡ get_or s i 0
        here = rw (add-one, add-one) refl

    pub mark_at_end : length s ≤ i + 1 → well_at s i ≡ false
    mark_at_end l = sym well_kept ∙ well_end s (i + 1) l ∙ rw m' refl

    module _ (l : i + 1 < length s) where
      pub mark_unstuffed : (get_or s (i + 1) 0 ≡ 0xFD → ⊥) → well_at s i ≡ false
      mark_unstuffed f = sym well_kept ∙ well_turn s (i + 1) l ∙ rw (m', ne_eqb (get_or s (i + 1) 0) 0xFD f) refl

      pub well_skipped : get_or s (i + 1) 0 ≡ 0xFD → well_at s (i + 1 + 1) ≡ well_at s i
      well_skipped f = sym (well_turn s (i + 1) l ∙ rw (m', eq-eqb (get_or s (i + 1) 0) 0xFD f) refl) ∙ well_kept

      pub unstuff_skipped : unstuffed_at s i ≡ get_or s i 0 ∷ unstuffed_at s (i + 1 + 1)
      unstuff_skipped = unstuff_kept ∙ ap (λ (t : List ℕ). get_or s i 0 ∷ t) (unstuff_turn s (i + 1) l ∙ rw m' refl)

    -- well stuffed, its FD follows
    pub well_next : well_at s i ≡ true → (i + 1 < length s) × (get_or s (i + 1) 0 ≡ 0xFD)
    well_next w = by (dec_lt (i + 1) (length s))
      where
        is_false : well_at s i ≡ false → ⊥
        is_false e = let z : true ≡ false = sym w ∙ e in true≢false z

        by : Dec (i + 1 < length s) → (i + 1 < length s) × (get_or s (i + 1) 0 ≡ 0xFD)
        by (no l) = absurd (is_false (mark_at_end (omega arith)))
        by (yes l) = (l, at (ℕ_discrete (get_or s (i + 1) 0) 0xFD))
          where
            at : Dec (get_or s (i + 1) 0 ≡ 0xFD) → get_or s (i + 1) 0 ≡ 0xFD
            at (yes e) = e
            at (no e) = absurd (is_false (mark_unstuffed l e))
