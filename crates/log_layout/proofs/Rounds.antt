-- One round of the loops over a directory and over an index.
use mathlib.Core.Path.{◌≡◌, refl, sym, ap, ◌∙◌}
use mathlib.Core.Bool.{false}
use mathlib.Core.List.{List, [], ◌∷◌}
use Prim.Native.Nat.{ℕ, zero, suc, ◌+◌, ◌*◌, ◌-◌, ◌≤◌, ◌<◌}
use native.Mathlib.Omega.{arith}
use lib.Dec.{leb}
use lib.ListN.{length, take, drop, length-drop, drop_of_length-le}
use lib.Seq.{drop-drop, take_all}
use borrow.Author.Tests.{eq-eqb, ne_eqb}
use Rattle.std.specs.List.{list_all, range_with_len}
use Rattle.lists.specs.Numbers.{number_at}
use Rattle.lists.proofs.Numbers.{number_drop}
use Rattle.log_index.specs.Last.{index_size}
use Rattle.log_layout.specs.Log.{LogEntry, index_offset}
use Rattle.log_layout.specs.Layout.{u32_at, numbers, entries, entry_of, chained, none_above}

pub u32_here : (s : List ℕ) (p : ℕ) → u32_at (drop p s) 0 ≡ u32_at s p
u32_here s p = number_drop 4 p 0 s ∙ ap (u32_at s) (sum p)
  where
    sum : (p : ℕ) → p + 0 ≡ p
    sum p = omega arith

-- behind the end of the file, and of what is left of it
pub u32_behind : (s : List ℕ) (p : ℕ) → length s ≤ p → u32_at s p ≡ 0
unfolding number_at
u32_behind s p h = sym (u32_here s p) ∙ ap (λ (l : List ℕ). u32_at l 0) (drop_of_length-le s h)

pub u32_tail : (s : List ℕ) (p : ℕ) → u32_at (take (length s - p) (drop p s)) 0 ≡ u32_at s p
u32_tail s p =
    ap (λ (l : List ℕ). u32_at l 0) (take_all (length s - p) (drop p s) (omega (arith, length-drop p s))) ∙ u32_here s p

module _ (s : List ℕ) (p : ℕ) where
  -- the first of the numbers that are left, and the first of the entries
  pub numbers_turn : (k : ℕ) → numbers (suc k) (drop p s) ≡ u32_at s p ∷ numbers k (drop (p + 4) s)
  unfolding numbers
  numbers_turn k = rw (u32_here s p, drop-drop 4 p s)

  pub entries_turn : (k : ℕ) → entries (suc k) (drop p s) ≡ (u32_at s p, u32_at s (p + 4)) ∷ entries k (drop (p + 8) s)
  unfolding entries
  entries_turn k = rw (u32_here s p, number_drop 4 p 4 s, drop-drop 8 p s)

-- the entries of n from number i on
abbrev pub entries_left : List ℕ → ℕ → ℕ → List LogEntry
entries_left file n i = entries (n - i) (drop (16 + 8 * i) file)

module _ (file : List ℕ) (n i : ℕ) where
  pub left_turn : i < n → entries_left file n i ≡ entry_of file i ∷ entries_left file n (i + 1)
  left_turn h =
      let z : n - i ≡ suc (n - (i + 1)) = omega arith in
      let p : 16 + 8 * i + 8 ≡ 16 + 8 * (i + 1) = omega arith in
      rw (z, entries_turn file (16 + 8 * i) (n - (i + 1)), p)

  pub left_end : n ≤ i → entries_left file n i ≡ []
  unfolding entries
  left_end h = let z : n - i ≡ 0 = omega arith in rw z

  module _ (h : i < n) (start end : ℕ) where
    -- an entry that starts elsewhere, and one that starts where it has to
    pub chained_apart : ((entry_of file i).0 ≡ start → ⊥) → chained (entries_left file n i) start end ≡ false
    unfolding chained
    chained_apart d = ap (λ (es : List LogEntry). chained es start end) (left_turn h) ∙ rw (ne_eqb (entry_of file i).0 start d)

    pub chained_next : (entry_of file i).0 ≡ start
        → chained (entries_left file n i) start end ≡ chained (entries_left file n (i + 1)) (start + (entry_of file i).1) end
    unfolding chained
    chained_next e = ap (λ (es : List LogEntry). chained es start end) (left_turn h) ∙ rw (eq-eqb (entry_of file i).0 start e)

-- the test of the index numbers one by one
all_within : (s : List ℕ) (p n k a q : ℕ) → q ≡ p + 4 * a
    → list_all (λ i. leb (u32_at s (p + 4 * i)) n) (range_with_len a k) ≡ none_above n (numbers k (drop q s))
unfolding none_above numbers
all_within s p n zero a q e = refl
all_within s p n (suc k) a q e =
    rw (u32_here s q, drop-drop 4 q s, all_within s p n k (a + 1) (q + 4) (omega arith), e)

pub index_all : (file : List ℕ) (n : ℕ)
    → list_all (λ i. leb (u32_at file (index_offset n + 4 * i)) n) (range_with_len 0 index_size) ≡ none_above n (numbers index_size (drop (index_offset n) file))
index_all file n = all_within file (index_offset n) n index_size 0 (index_offset n) (omega arith)
