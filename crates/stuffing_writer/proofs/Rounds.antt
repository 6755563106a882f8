-- What a loop over the bytes does with the byte at i, and at the end.
use mathlib.Core.Path.{◌≡◌, refl, ap, ◌∙◌}
use mathlib.Core.Bool.{true, false, cond}
use mathlib.Core.List.{List, [], ◌∷◌}
use Prim.Native.Nat.{ℕ, ◌+◌, ◌≤◌, ◌<◌}
use native.Mathlib.Numerals.{add-one}
use lib.ListN.{length, get_or, set, drop, drop_of_length-le}
use lib.Seq.{drop-cons}
use Rattle.lists.proofs.Filling.{Filling, fill_next}
use Rattle.stuffing.specs.Stuffing.{mark_at, stuff_after}

-- The stuffed form of the bytes of s from i on, after the byte `before` and those of s before them.

module _ (before : ℕ) (s : List ℕ) (i : ℕ) where
  abbrev pub stuffed_at : List ℕ
  stuffed_at = stuff_after (get_or (0 ∷ before ∷ s) i 0) (get_or (before ∷ s) i 0) (drop i s)

module _ (before : ℕ) (s : List ℕ) (i : ℕ) where
  stuff_turn : i < length s
      → stuffed_at before s i ≡ get_or s i 0 ∷ cond (mark_at before s i) (0xFD ∷ stuffed_at before s (i + 1)) (stuffed_at before s (i + 1))
  unfolding stuff_after
  stuff_turn h = rw (add-one, drop-cons s i 0) refl

  pub stuff_plain : mark_at before s i ≡ false → i < length s → stuffed_at before s i ≡ get_or s i 0 ∷ stuffed_at before s (i + 1)
  stuff_plain e h = stuff_turn h ∙ rw e refl

  pub stuff_marked : mark_at before s i ≡ true → i < length s → stuffed_at before s i ≡ get_or s i 0 ∷ 0xFD ∷ stuffed_at before s (i + 1)
  stuff_marked e h = stuff_turn h ∙ rw e refl

  pub stuff_end : length s ≤ i → stuffed_at before s i ≡ []
  unfolding stuff_after
  stuff_end h = ap (stuff_after (get_or (0 ∷ before ∷ s) i 0) (get_or (before ∷ s) i 0)) (drop_of_length-le s h)

  -- the byte at i is written at j, and FD after it where it ends a mark
  module _ (new old out : List ℕ) (j : ℕ) (h : i < length s) (f : Filling new old out j (stuffed_at before s i))
      (room : j < length old) where
    pub put_plain : mark_at before s i ≡ false → Filling new old (set out j (get_or s i 0)) (j + 1) (stuffed_at before s (i + 1))
    put_plain e = fill_next new old out j (get_or s i 0) _ (rw (stuff_plain e h) at f) room

    pub put_marked : mark_at before s i ≡ true
        → Filling new old (set out j (get_or s i 0)) (j + 1) (0xFD ∷ stuffed_at before s (i + 1))
    put_marked e = fill_next new old out j (get_or s i 0) _ (rw (stuff_marked e h) at f) room
