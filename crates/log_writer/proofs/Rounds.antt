-- One round of the writer's loops.
use mathlib.Core.Path.{◌≡◌, sym, ap, subst, ◌∙◌}
use mathlib.Core.List.{List, [], ◌∷◌}
use Prim.Native.Nat.{ℕ, zero, suc, ◌+◌, ◌*◌, ◌≤◌, ◌<◌}
use native.Mathlib.Numerals.{add-one}
use native.Mathlib.Omega.{arith}
use lib.Dec.{eqb, eqb-suc-zero}
use lib.ListN.{length, take, drop, get_or, drop_of_length-le}
use lib.Seq.{drop-cons}
use borrow.Author.Tests.{eq-eqb, ne_eqb}
use Rattle.lists.specs.Write.{placed}
use Rattle.lists.proofs.Filling.{Filling}
use Rattle.reading.specs.Reading.{reading}
use Rattle.packet.specs.Verdict.{protocol2}
use Rattle.log_layout.specs.Log.{LogEntry, laid, numbers_of}
use Rattle.log_index.specs.Marks.{marked}
use Rattle.log_index.proofs.Marks.{marked_all}
use Rattle.log_parts.proofs.Parts.{fill_laid}
use Rattle.log_writer.specs.Writing.{sum, cut, directory_by}

-- ---- lengths

module _ (ns : List ℕ) (i : ℕ) where
  here : i < length ns → drop i ns ≡ get_or ns i 0 ∷ drop (i + 1) ns
  here h = rw add-one (drop-cons ns i 0 h)

  pub sum_turn : i < length ns → sum (drop i ns) ≡ get_or ns i 0 + sum (drop (i + 1) ns)
  unfolding sum
  sum_turn h = ap sum (here h)

  pub sum_end : length ns ≤ i → sum (drop i ns) ≡ 0
  unfolding sum
  sum_end h = ap sum (drop_of_length-le ns h)

  pub directory_turn : (start : ℕ) → i < length ns
      → directory_by start (drop i ns) ≡ (start, get_or ns i 0) ∷ directory_by (start + get_or ns i 0) (drop (i + 1) ns)
  unfolding directory_by
  directory_turn start h = ap (directory_by start) (here h)

  pub directory_end : (start : ℕ) → length ns ≤ i → laid (numbers_of (directory_by start (drop i ns))) [] ≡ []
  unfolding directory_by laid
  directory_end start h = ap (λ (l : List ℕ). laid (numbers_of (directory_by start l)) []) (drop_of_length-le ns h)

  -- the segments that are left, in the index
  pub marked_turn : (bytes xs : List ℕ) → i < length ns
      → marked_all i xs (cut (drop i ns) bytes)
      ≡ marked_all (i + 1) (marked (i + 1) xs (reading protocol2 (take (get_or ns i 0) bytes))) (cut (drop (i + 1) ns) (drop (get_or ns i 0) bytes))
  unfolding cut marked_all
  marked_turn bytes xs h = ap (λ (l : List ℕ). marked_all i xs (cut l bytes)) (here h) ∙ rw add-one

  pub marked_end : (bytes xs : List ℕ) → length ns ≤ i → marked_all i xs (cut (drop i ns) bytes) ≡ xs
  unfolding cut marked_all
  marked_end bytes xs h = ap (λ (l : List ℕ). marked_all i xs (cut l bytes)) (drop_of_length-le ns h)

-- what is left of the count is 0 where the sum is the count
pub none_left : (s left count : ℕ) → s + left ≡ count → eqb left 0 ≡ eqb s count
none_left s zero count e = sym (eq-eqb s count (omega arith))
none_left s (suc left) count e = eqb-suc-zero left ∙ sym (ne_eqb s count (λ z. omega arith))

-- ---- the directory in a buffer

pub fill_entry : (new old buffer b ns : List ℕ) (i start : ℕ) → i < length ns
    → Filling new old buffer (16 + 8 * i) (laid (numbers_of (directory_by start (drop i ns))) []) → 24 + 8 * i ≤ length old
    → b ≡ placed buffer (16 + 8 * i) (laid (start ∷ get_or ns i 0 ∷ []) [])
    → Filling new old b (16 + 8 * (i + 1)) (laid (numbers_of (directory_by (start + get_or ns i 0) (drop (i + 1) ns))) [])
unfolding laid
fill_entry new old buffer b ns i start h f r e =
    let n = get_or ns i 0 in
    let rest = laid (numbers_of (directory_by (start + n) (drop (i + 1) ns))) [] in
    let f₀ =
    subst (λ (d : List LogEntry). Filling new old buffer (16 + 8 * i) (laid (numbers_of d) [])) (directory_turn ns i start h) f in
    subst (λ (x : List ℕ). Filling new old x (16 + 8 * (i + 1)) rest) (sym e)
    (fill_laid new old buffer (16 + 8 * i) (16 + 8 * (i + 1)) (start ∷ n ∷ []) rest f₀ (omega arith) (omega arith))
