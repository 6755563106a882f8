-- The parts of a log put into a buffer one after the other are the log.
use mathlib.Core.Path.{◌≡◌, refl, sym, ap, subst, ◌∙◌}
use mathlib.Core.List.{List, [], ◌∷◌, ◌++◌, append-nil, append_assoc}
use Prim.Native.Nat.{ℕ, ◌+◌, ◌*◌, ◌≤◌}
use native.Mathlib.Omega.{arith}
use lib.ListN.{length}
use Rattle.lists.specs.Numbers.{bytes_of}
use Rattle.lists.specs.Write.{overwritten, placed}
use Rattle.lists.proofs.Filling.{Filling, fill_start, fill_part, fill_done}
use Rattle.reading.specs.Promise.{joined}
use Rattle.log_index.specs.Last.{index, index_size}
use Rattle.log_index.proofs.Index.{index_length}
use Rattle.log_layout.specs.Log.{laid, numbers_of, header, index_offset, segments_offset, directory, log_of}
use Rattle.log_layout.proofs.Laid.{length_laid, length_numbers_of}
use Rattle.log_layout.proofs.Sound.{directory_length}

pub laid_append : (xs rest : List ℕ) → laid xs rest ≡ laid xs [] ++ rest
unfolding laid
laid_append [] rest = refl
laid_append (x ∷ xs) rest =
    ap (λ (l : List ℕ). bytes_of 4 x ++ l) (laid_append xs rest) ∙ sym (append_assoc (bytes_of 4 x) (laid xs []) rest)

pub laid_alone : (xs : List ℕ) → length (laid xs []) ≡ 4 * length xs
laid_alone xs = length_laid xs [] ∙ omega arith

pub fill_laid : (new old buffer : List ℕ) (j k : ℕ) (xs rest : List ℕ) → Filling new old buffer j (laid xs rest) → k ≡ j + 4 * length xs
    → k ≤ length old → Filling new old (placed buffer j (laid xs [])) k rest
fill_laid new old buffer j k xs rest f e h =
    let l = laid_alone xs in
    let z : j + length (laid xs []) ≡ k = omega arith in
    subst (λ (m : ℕ). Filling new old (placed buffer j (laid xs [])) m rest) z
    (fill_part new old buffer j (laid xs []) rest
    (subst (λ (x : List ℕ). Filling new old buffer j x) (laid_append xs rest) f) (omega arith))

module _ (out : List ℕ) (ss : List (List ℕ)) (h : segments_offset (length ss) + length (joined ss) ≤ length out) where
  abbrev n : ℕ
  n = length ss

  abbrev entries : List ℕ
  entries = numbers_of (directory (segments_offset n) ss)

  pub parts_put :
      placed
      (placed (placed (placed out 0 (laid (header n) [])) 16 (laid entries [])) (index_offset n) (laid (index ss) []))
      (segments_offset n) (joined ss)
      ≡ overwritten out (log_of ss)
  unfolding log_of
  parts_put =
      let log = log_of ss in
      let i = index_length index_size 0 ss in
      let d = length_numbers_of (directory (segments_offset n) ss) in
      let l = directory_length (segments_offset n) ss in
      let f₁ = fill_laid log out out 0 16 (header n) _ (fill_start log out) refl (omega arith) in
      let f₂ = fill_laid log out _ 16 (index_offset n) entries _ f₁ (omega arith) (omega arith) in
      let f₃ = fill_laid log out _ (index_offset n) (segments_offset n) (index ss) _ f₂ (omega arith) (omega arith) in
      let filled = placed (placed (placed out 0 (laid (header n) [])) 16 (laid entries [])) (index_offset n) (laid (index ss) []) in
      let f₄ = subst (λ (x : List ℕ). Filling log out filled (segments_offset n) x) (sym (append-nil (joined ss))) f₃ in
      fill_done log out _ _ (fill_part log out _ (segments_offset n) (joined ss) [] f₄ h)
