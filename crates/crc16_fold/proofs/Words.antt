-- Bytes as one number: byte by byte, and four before four others.
use mathlib.Core.Path.{◌≡◌, refl, sym, ap, ap₂, ◌∙◌}
use mathlib.Core.List.{List, [], ◌∷◌, ◌++◌, append-nil}
use Prim.Native.Nat.{ℕ, suc, ◌+◌, ◌*◌, ◌%◌, ◌^◌, ◌≤◌, ◌<◌}
use native.Mathlib.Nat.{mod-le, lt_of_le_of_lt, lt_of_lt_of_le}
use native.Mathlib.Omega.{arith}
use lib.Pow.{pow_mono, pow_pos, shl_lt, shl_exact}
use lib.Bits.{bit_xor, xor_comm, xor_lt, xor_zero_r}
use Rattle.std.specs.Int.{w32, from_be_bytes}
use Rattle.std.proofs.lemmas.Nat.{xor_block}
use lib.ListN.{length, get_or, take, drop, drop_of_length-le, take-append-drop}
use lib.Seq.{drop-cons, length-take-le}
use Rattle.crc.specs.Crc.{shifts, crc_byte, crc_from}
use Rattle.crc.specs.Product.{product}
use Rattle.crc.proofs.Linear.{shifts_xor}
use Rattle.crc.proofs.Shifts.{shifts_low, shifts_add, shifts_swap}
use Rattle.crc.proofs.Laws.{checksum_laws}
use Rattle.crc.proofs.Flips.{crc_apart}
use Rattle.crc.proofs.Product.{product_xor, product_shl}
use Rattle.crc16_fold.specs.Fold.{Makes}
use Rattle.crc16_fold.proofs.Parts.{by_one}

pub makes_byte : (b : ℕ) → b < 2 ^ 8 → Makes (b ∷ []) b
unfolding crc_from crc_byte
makes_byte b h =
    ap (shifts 16) (by_one b (omega arith)) ∙ shifts_add 8 8 b ∙ ap (shifts 8) (shifts_low 8 b (omega arith))

-- bytes before others move up by as many bits as these have
abbrev pub before : ℕ → ℕ → ℕ → ℕ
before k x y = bit_xor (x * 2 ^ k % 2 ^ 64) y

pub makes_joined : (j : ℕ) (s t : List ℕ) (x y : ℕ) → j + length t * 8 ≤ 64 → x < 2 ^ j → Makes s x → Makes t y
    → Makes (s ++ t) (before (length t * 8) x y)
makes_joined j s t x y h l m n =
    let k = length t * 8 in
    ap (shifts 16) (product_xor 64 1 (x * 2 ^ k % 2 ^ 64) y)
    ∙ shifts_xor 16 (product 64 1 (x * 2 ^ k % 2 ^ 64)) (product 64 1 y)
    ∙ ap₂ bit_xor
    (ap (shifts 16) (ap (product 64 1) (shl_exact j k 64 l h) ∙ product_shl 64 j k h 1 x l)
    ∙ shifts_swap 16 k (product 64 1 x)
    ∙ ap (shifts k) m)
    n
    ∙ sym (crc_apart (crc_from 0 s) t)
    ∙ sym (checksum_laws.joined 0 s t)

pub before_lt : (j k x y : ℕ) → x < 2 ^ j → y < 2 ^ k → before k x y < 2 ^ (j + k)
before_lt j k x y hx hy =
    xor_lt (j + k) (x * 2 ^ k % 2 ^ 64) y (lt_of_le_of_lt (mod-le (x * 2 ^ k) (2 ^ 64)) (shl_lt j k hx))
    (lt_of_lt_of_le hy (pow_mono {i = k} {j = j + k} (omega arith)))

-- which comes to a sum
pub before_is : (j k x y : ℕ) → j + k ≤ 64 → x < 2 ^ j → y < 2 ^ k → before k x y ≡ x * 2 ^ k + y
before_is j k x y l hx hy =
    let p : x * 2 ^ k + 0 ≡ x * 2 ^ k = omega arith in
    let q : 0 * 2 ^ k + y ≡ y = omega arith in
    ap (λ (n : ℕ). bit_xor n y) (shl_exact j k 64 hx l)
    ∙ sym (ap₂ bit_xor p q)
    ∙ xor_block k x 0 0 y (pow_pos k) hy
    ∙ ap₂ (λ (m n : ℕ). m * 2 ^ k + n) (xor_zero_r x) (xor_comm 0 y ∙ xor_zero_r y)

-- four bytes as std reads them, the first one highest
module _ (a b c d : ℕ) (ha : a < 2 ^ 8) (hb : b < 2 ^ 8) (hc : c < 2 ^ 8) (hd : d < 2 ^ 8) where
  by_halves : from_be_bytes w32 (a ∷ b ∷ c ∷ d ∷ []) ≡ before 16 (before 8 a b) (before 8 c d)
  by_halves =
      let high = before_is 8 8 a b (omega arith) ha hb in
      let low = before_is 8 8 c d (omega arith) hc hd in
      let whole =
      before_is 16 16 (before 8 a b) (before 8 c d) (omega arith) (before_lt 8 8 a b ha hb) (before_lt 8 8 c d hc hd) in
      omega (arith, high, low, whole)

  pub makes_four : Makes (a ∷ b ∷ c ∷ d ∷ []) (from_be_bytes w32 (a ∷ b ∷ c ∷ d ∷ []))
  makes_four =
      rw by_halves
      (makes_joined 16 (a ∷ b ∷ []) (c ∷ d ∷ []) _ _ (omega arith) (before_lt 8 8 a b ha hb)
      (makes_joined 8 (a ∷ []) (b ∷ []) a b (omega arith) ha (makes_byte a ha) (makes_byte b hb))
      (makes_joined 8 (c ∷ []) (d ∷ []) c d (omega arith) hc (makes_byte c hc) (makes_byte d hd)))

-- eight bytes of a list
abbrev pub first_four : List ℕ → ℕ → List ℕ
first_four s i = get_or s i 0 ∷ get_or s (i + 1) 0 ∷ get_or s (i + 2) 0 ∷ get_or s (i + 3) 0 ∷ []

abbrev pub last_four : List ℕ → ℕ → List ℕ
last_four s i = get_or s (i + 4) 0 ∷ get_or s (i + 5) 0 ∷ get_or s (i + 6) 0 ∷ get_or s (i + 7) 0 ∷ []

module _ (s : List ℕ) (i : ℕ) (h : i + 8 ≤ length s) where
  one_more_lem : (j n : ℕ) (t : List ℕ) → j < length s → suc j ≡ n → drop n s ≡ t → drop j s ≡ get_or s j 0 ∷ t
  one_more_lem j n t l e d = drop-cons s j 0 l ∙ ap (λ (r : List ℕ). get_or s j 0 ∷ r) (ap (λ (m : ℕ). drop m s) e ∙ d)

  eight_from : drop i s ≡ (first_four s i ++ last_four s i) ++ drop (i + 8) s
  eight_from =
      one_more_lem i (i + 1) _ (omega arith) (omega arith)
      (one_more_lem (i + 1) (i + 2) _ (omega arith) (omega arith)
      (one_more_lem (i + 2) (i + 3) _ (omega arith) (omega arith)
      (one_more_lem (i + 3) (i + 4) _ (omega arith) (omega arith)
      (one_more_lem (i + 4) (i + 5) _ (omega arith) (omega arith)
      (one_more_lem (i + 5) (i + 6) _ (omega arith) (omega arith)
      (one_more_lem (i + 6) (i + 7) _ (omega arith) (omega arith)
      (one_more_lem (i + 7) (i + 8) _ (omega arith) (omega arith) refl)))))))

-- the first eight bytes, and what follows them
pub eight_before : (s eight more : List ℕ) → eight ≡ take 8 s → more ≡ drop 8 s → length more + 8 ≡ length s
    → s ≡ (first_four eight 0 ++ last_four eight 0) ++ more
eight_before s eight more e d h =
    let n : length eight ≡ 8 = ap length e ∙ length-take-le 8 s (omega arith) in
    let all = first_four eight 0 ++ last_four eight 0 in
    let whole : eight ≡ all =
    eight_from eight 0 (omega arith) ∙ ap (λ (r : List ℕ). all ++ r) (drop_of_length-le eight {i = 8} (omega arith)) ∙ append-nil all in
    sym (take-append-drop 8 s) ∙ ap₂ (λ (x y : List ℕ). x ++ y) (sym e ∙ whole) (sym d)
