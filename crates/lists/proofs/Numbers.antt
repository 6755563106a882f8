-- Laws of bytes and the numbers that they make.
use mathlib.Core.Path.{◌≡◌, refl, ap, ◌∙◌}
use mathlib.Core.List.{List, [], ◌∷◌}
use Prim.Native.Nat.{ℕ, zero, suc, ◌+◌, ◌*◌, ◌/◌, ◌%◌, ◌<◌, ◌≤◌}
use native.Mathlib.Omega.{arith}
use lib.ListN.{length, take, drop, get_or}
use lib.Seq.{get_or-take, get_or-drop, drop-cons}
use Rattle.std.specs.Int.{w32, w64, from_le_bytes, to_le_bytes}
use Rattle.lists.specs.Numbers.{Bytes, number_at, bytes_of}

pub bytes_length : (n u : ℕ) → length (bytes_of n u) ≡ n
unfolding bytes_of
bytes_length zero u = refl
bytes_length (suc n) u = ap suc (bytes_length n (u / 256))

-- the number of the same bytes
pub same_number : (n : ℕ) (xs ys : List ℕ) (a b : ℕ) → ((k : ℕ) → k < n → get_or xs (a + k) 0 ≡ get_or ys (b + k) 0) → number_at xs a n ≡ number_at ys b n
unfolding number_at
same_number zero xs ys a b f = refl
same_number (suc n) xs ys a b f =
    let rest = same_number n xs ys (suc a) (suc b) (λ k h.
    let e₁ : suc a + k ≡ a + suc k = omega arith in
    let e₂ : suc b + k ≡ b + suc k = omega arith in
    rw (e₁, e₂) (f (suc k) (omega arith))) in
    let e₁ : a + 0 ≡ a = omega arith in
    let e₂ : b + 0 ≡ b = omega arith in
    rw (rw (e₁, e₂) at (f 0 (omega arith)), rest)

-- the number of a part by itself
pub part_number : (s : List ℕ) (a n : ℕ) → number_at (take n (drop a s)) 0 n ≡ number_at s a n
part_number s a n =
    same_number n (take n (drop a s)) s 0 a (λ k h.
    let e : 0 + k ≡ k = omega arith in rw e (get_or-take n (drop a s) k 0 h ∙ get_or-drop a s k 0))

-- the number at an offset, counted from another one on
pub number_drop : (n a b : ℕ) (s : List ℕ) → number_at (drop a s) b n ≡ number_at s (a + b) n
number_drop n a b s =
    same_number n (drop a s) s b (a + b) (λ k h.
    let e : a + (b + k) ≡ a + b + k = omega arith in rw (← e) (get_or-drop a s (b + k) 0))

-- the bytes of the number that n bytes make
pub bytes_number : (n : ℕ) (s : List ℕ) (a : ℕ) → Bytes s → a + n ≤ length s → bytes_of n (number_at s a n) ≡ take n (drop a s)
unfolding bytes_of number_at
bytes_number zero s a b h = refl
bytes_number (suc n) s a b h =
    let x = get_or s a 0 in
    let m = number_at s (suc a) n in
    let low = b a in
    let e : (x + 256 * m) % 256 ≡ x = omega arith in
    let f : (x + 256 * m) / 256 ≡ m = omega arith in
    rw (drop-cons s a 0 (omega arith), e, f) (ap (λ (l : List ℕ). x ∷ l) (bytes_number n s (suc a) b (omega arith)))

-- std reads four bytes as this number
pub read_is : (a b c d : ℕ) → from_le_bytes w32 (a ∷ b ∷ c ∷ d ∷ []) ≡ number_at (a ∷ b ∷ c ∷ d ∷ []) 0 4
unfolding number_at
read_is a b c d = omega arith

-- std writes a number of 32 bits as these four bytes, and a longer one with these four first
pub written_is : (u : ℕ) → to_le_bytes w32 u ≡ bytes_of 4 u
unfolding bytes_of
written_is u =
    let third : u / 65536 % 256 ≡ u / 256 / 256 % 256 = omega arith in
    let fourth : u / 16777216 % 256 ≡ u / 256 / 256 / 256 % 256 = omega arith in
    rw (third, fourth)

pub written_first : (u : ℕ) → take 4 (to_le_bytes w64 u) ≡ bytes_of 4 u
written_first u = written_is u

-- four bytes of a list by themselves
pub four_bytes : (table : List ℕ) (a : ℕ)
    → number_at (get_or table a 0 ∷ get_or table (a + 1) 0 ∷ get_or table (a + 2) 0 ∷ get_or table (a + 3) 0 ∷ []) 0 4 ≡ number_at table a 4
unfolding number_at
four_bytes table a =
    let e₁ : a + 1 ≡ suc a = omega arith in
    let e₂ : a + 2 ≡ suc (suc a) = omega arith in
    let e₃ : a + 3 ≡ suc (suc (suc a)) = omega arith in
    rw (e₁, e₂, e₃)
