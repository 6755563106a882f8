-- Numbers put into a buffer one after the other.
use mathlib.Core.Path.{◌≡◌, refl, sym, ap, subst}
use mathlib.Core.Bool.{Bool, true, false}
use mathlib.Core.List.{List, [], ◌∷◌, ◌++◌}
use Prim.Native.Nat.{ℕ, ◌+◌, ◌*◌, ◌-◌, ◌/◌, ◌≤◌, ◌<◌}
use native.Mathlib.Numerals.{add-one}
use native.Mathlib.Omega.{arith}
use lib.Dec.{leb}
use lib.ListN.{length, take, drop, get_or, drop_of_length-le}
use lib.Seq.{drop-cons}
use borrow.Author.Tests.{leb-true, leb-false, le-leb, lt-leb}
use Rattle.lists.specs.Numbers.{bytes_of}
use Rattle.lists.specs.Write.{placed}
use Rattle.lists.proofs.Filling.{Filling, fill_from, fill_part, fill_placed}
use Rattle.log_layout.specs.Log.{laid, header}
use Rattle.log_parts.specs.Parts.{put}

-- ---- numbers in a buffer

-- the next number of those that are left
pub fill_number : (new old buffer : List ℕ) (j v : ℕ) (vs rest : List ℕ) → Filling new old buffer j (laid (v ∷ vs) rest)
    → j + 4 ≤ length old → Filling new old (placed buffer j (bytes_of 4 v)) (j + 4) (laid vs rest)
unfolding laid bytes_of
fill_number new old buffer j v vs rest f h = fill_part new old buffer j (bytes_of 4 v) (laid vs rest) f h

pub header_put : (out : List ℕ) (n : ℕ) → 16 ≤ length out
    → placed (placed (placed (placed out 0 (bytes_of 4 n)) 4 (bytes_of 4 16)) 8 (bytes_of 4 254)) 12 (bytes_of 4 (16 + 8 * n))
    ≡ placed out 0 (laid (header n) [])
unfolding laid
header_put out n h =
    let f₀ = fill_from out (laid (header n) []) 0 (omega arith) in
    let f₁ = fill_number _ _ _ 0 n (16 ∷ 254 ∷ (16 + 8 * n) ∷ []) [] f₀ (omega arith) in
    let f₂ = fill_number _ _ _ 4 16 (254 ∷ (16 + 8 * n) ∷ []) [] f₁ (omega arith) in
    let f₃ = fill_number _ _ _ 8 254 ((16 + 8 * n) ∷ []) [] f₂ (omega arith) in
    let f₄ = fill_number _ _ _ 12 (16 + 8 * n) [] [] f₃ (omega arith) in
    fill_placed out (laid (header n) []) 0 (omega arith) _ _ f₄

module _ (xs : List ℕ) (i : ℕ) where
  here : i < length xs → drop i xs ≡ get_or xs i 0 ∷ drop (i + 1) xs
  here h = rw add-one (drop-cons xs i 0 h)

  pub numbers_turn : i < length xs → laid (drop i xs) [] ≡ laid (get_or xs i 0 ∷ drop (i + 1) xs) []
  numbers_turn h = ap (λ (l : List ℕ). laid l []) (here h)

  pub numbers_end : length xs ≤ i → laid (drop i xs) [] ≡ []
  unfolding laid
  numbers_end h = ap (λ (l : List ℕ). laid l []) (drop_of_length-le xs h)

pub entry_put : (out : List ℕ) (at a b : ℕ) → at + 8 ≤ length out
    → placed (placed out at (bytes_of 4 a)) (at + 4) (bytes_of 4 b) ≡ placed out at (laid (a ∷ b ∷ []) [])
unfolding laid
entry_put out at a b h =
    let f₀ = fill_from out (laid (a ∷ b ∷ []) []) at (omega arith) in
    let f₁ = fill_number _ _ _ at a (b ∷ []) [] f₀ (omega arith) in
    let f₂ = fill_number _ _ _ (at + 4) b [] [] f₁ (omega arith) in
    fill_placed out (laid (a ∷ b ∷ []) []) at (omega arith) _ _ f₂

-- one number of an index
pub fill_index : (new old buffer b xs : List ℕ) (at i : ℕ) → i < length xs
    → Filling new old buffer (at + 4 * i) (laid (drop i xs) []) → at + 4 * i + 4 ≤ length old
    → b ≡ placed buffer (at + 4 * i) (bytes_of 4 (get_or xs i 0)) → Filling new old b (at + 4 * (i + 1)) (laid (drop (i + 1) xs) [])
fill_index new old buffer b xs at i h f r e =
    let f₁ =
    fill_number new old buffer (at + 4 * i) (get_or xs i 0) (drop (i + 1) xs) []
    (subst (λ (l : List ℕ). Filling new old buffer (at + 4 * i) l) (numbers_turn xs i h) f) r in
    let k : at + 4 * i + 4 ≡ at + 4 * (i + 1) = omega arith in
    subst (λ (c : List ℕ). Filling new old c (at + 4 * (i + 1)) (laid (drop (i + 1) xs) [])) (sym e)
    (subst (λ (j : ℕ). Filling new old (placed buffer (at + 4 * i) (bytes_of 4 (get_or xs i 0))) j (laid (drop (i + 1) xs) [])) k f₁)

-- nothing is left
pub filled_end : (old x buffer : List ℕ) (at j : ℕ) (left : List ℕ) → at ≤ length old → left ≡ []
    → Filling (take at old ++ x) old buffer j left → buffer ≡ placed old at x
filled_end old x buffer at j left h e f =
    fill_placed old x at h buffer j (subst (λ (l : List ℕ). Filling (take at old ++ x) old buffer j l) e f)

-- ---- with room and without

module _ (needed offset : ℕ) (out numbers : List ℕ) where
  pub put_fits : needed ≤ length out → put needed out offset numbers ≡ placed out offset (laid numbers [])
  unfolding put
  put_fits h = rw (le-leb needed (length out) h)

  pub put_not : leb needed (length out) ≡ false → put needed out offset numbers ≡ out
  unfolding put
  put_not h = rw h

-- entries that fit behind the front
pub room_is : (front n size : ℕ) → front ≤ size → leb n ((size - front) / 8) ≡ leb (front + 8 * n) size
room_is front n size h = by_test (leb n ((size - front) / 8)) refl
  where
    by_test : (t : Bool) → leb n ((size - front) / 8) ≡ t → t ≡ leb (front + 8 * n) size
    by_test true e = let k = leb-true n ((size - front) / 8) e in sym (le-leb (front + 8 * n) size (omega arith))
    by_test false e = let k = leb-false n ((size - front) / 8) e in sym (lt-leb (front + 8 * n) size (omega arith))
