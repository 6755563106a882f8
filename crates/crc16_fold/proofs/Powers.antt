-- Powers of x modulo x^15 + x + 1, and shorter numbers by them. Each power is a shift of 0x8002, so that it is computed once, and
-- carried to all numbers by the laws of the product.
use mathlib.Core.Path.{◌≡◌, refl, sym, ap, ap₂, subst, ◌∙◌}
use Prim.Native.Nat.{ℕ, ◌+◌, ◌*◌, ◌/◌, ◌%◌, ◌^◌, ◌≤◌, ◌<◌}
use native.Mathlib.Nat.{mod-lt}
use native.Mathlib.Omega.{arith}
use lib.Pow.{pow_pos, split, shl_exact, shr_lt}
use lib.Bits.{bit_xor, xor_comm, xor_lt, xor_shifted}
use Rattle.lists.proofs.Xor.{xor_assoc}
use Rattle.crc.specs.Crc.{reduce_if, shift, shifts}
use Rattle.crc.specs.Product.{product}
use Rattle.crc.proofs.Linear.{shifts_xor}
use Rattle.crc.proofs.Shifts.{shifts_add, shifts_swap}
use Rattle.crc.proofs.Product.{product_xor, xor_product, product_shifts, product_shl}
use Rattle.crc16_fold.specs.Fold.{number_part, more}

number_xor : (u v : ℕ) → number_part (bit_xor u v) ≡ bit_xor (number_part u) (number_part v)
unfolding number_part
number_xor u v = product_xor 64 0x8002 u v

-- times x^k, where that has room
module _ (j k : ℕ) (h : j + k ≤ 64) (u : ℕ) (l : u < 2 ^ j) where
  up_exact : number_part (u * 2 ^ k) ≡ shifts k (number_part u)
  unfolding number_part
  up_exact = product_shl 64 j k h 0x8002 u l

  pub up : number_part (u * 2 ^ k % 2 ^ 64) ≡ shifts k (number_part u)
  up = ap number_part (shl_exact j k 64 l h) ∙ up_exact

-- x^m is x^i + x^k
abbrev Power : ℕ → ℕ → ℕ → Type 0
Power m i k = shifts m 0x8002 ≡ bit_xor (shifts i 0x8002) (shifts k 0x8002)

power_of : (m i k : ℕ) → Power m i k → (u : ℕ) → shifts m (number_part u) ≡ bit_xor (shifts i (number_part u)) (shifts k (number_part u))
unfolding number_part
power_of m i k e u =
    sym (product_shifts 64 m 0x8002 u)
    ∙ ap (λ (a : ℕ). product 64 a u) e
    ∙ xor_product 64 (shifts i 0x8002) (shifts k 0x8002) u
    ∙ ap₂ bit_xor (product_shifts 64 i 0x8002 u) (product_shifts 64 k 0x8002 u)

power_15 : Power 15 0 1
unfolding reduce_if shift shifts
power_15 = refl

power_16 : Power 16 1 2
unfolding reduce_if shift shifts
power_16 = refl

power_30 : Power 30 0 2
unfolding reduce_if shift shifts
power_30 = refl

power_32 : Power 32 4 2
unfolding reduce_if shift shifts
power_32 = refl

power_64 : Power 64 8 4
unfolding reduce_if shift shifts
power_64 = refl

-- ---- times x^m, as two that are added

two_powers : (m i k : ℕ) → Power m i k → i ≤ 28 → k ≤ 28 → (u : ℕ) → u < 2 ^ 36
    → number_part (bit_xor (u * 2 ^ i % 2 ^ 64) (u * 2 ^ k % 2 ^ 64)) ≡ shifts m (number_part u)
two_powers m i k e hi hk u l =
    number_xor (u * 2 ^ i % 2 ^ 64) (u * 2 ^ k % 2 ^ 64)
    ∙ ap₂ bit_xor (up 36 i (omega arith) u l) (up 36 k (omega arith) u l)
    ∙ sym (power_of m i k e u)

pub times_16 : (w : ℕ) → w < 2 ^ 36 → number_part (bit_xor (w * 2 ^ 1 % 2 ^ 64) (w * 2 ^ 2 % 2 ^ 64)) ≡ shifts 16 (number_part w)
times_16 w l = two_powers 16 1 2 power_16 (omega arith) (omega arith) w l

-- ---- bytes go in: v is the number of them times x^16

pub byte_in : (u v w : ℕ) → u < 2 ^ 36 → number_part v ≡ shifts 16 (number_part w)
    → number_part (bit_xor (u * 2 ^ 8 % 2 ^ 64) v) ≡ more 8 (number_part u) (number_part w)
byte_in u v w l e = number_xor (u * 2 ^ 8 % 2 ^ 64) v ∙ ap₂ bit_xor (up 36 8 (omega arith) u l) e

-- four before four others, as one number that is short
abbrev pub joined : ℕ → ℕ → ℕ
joined high low = bit_xor (bit_xor (high * 2 ^ 4 % 2 ^ 64) (high * 2 ^ 2 % 2 ^ 64)) low

module _ (high low : ℕ) (h : high < 2 ^ 32) (l : low < 2 ^ 32) where
  pub joined_lt : joined high low < 2 ^ 36
  joined_lt =
      xor_lt 36 (bit_xor (high * 2 ^ 4 % 2 ^ 64) (high * 2 ^ 2 % 2 ^ 64)) low
      (xor_lt 36 (high * 2 ^ 4 % 2 ^ 64) (high * 2 ^ 2 % 2 ^ 64) (omega arith) (omega arith)) (omega arith)

  pub eight_in : (u v : ℕ) → u < 2 ^ 36 → number_part v ≡ shifts 16 (number_part (joined high low))
      → number_part (bit_xor (bit_xor (u * 2 ^ 8 % 2 ^ 64) (u * 2 ^ 4 % 2 ^ 64)) v)
      ≡ more 32 (more 32 (number_part u) (number_part high)) (number_part low)
  eight_in u v k e =
      number_xor (bit_xor (u * 2 ^ 8 % 2 ^ 64) (u * 2 ^ 4 % 2 ^ 64)) v
      ∙ ap₂ bit_xor
      (two_powers 64 8 4 power_64 (omega arith) (omega arith) u k ∙ shifts_add 32 32 (number_part u))
      (e
      ∙ ap (shifts 16)
      (number_xor (bit_xor (high * 2 ^ 4 % 2 ^ 64) (high * 2 ^ 2 % 2 ^ 64)) low
      ∙ ap (λ (x : ℕ). bit_xor x (number_part low)) (two_powers 32 4 2 power_32 (omega arith) (omega arith) high (omega arith)))
      ∙ shifts_xor 16 (shifts 32 (number_part high)) (number_part low)
      ∙ ap (λ (x : ℕ). bit_xor x (shifts 16 (number_part low))) (shifts_swap 16 32 (number_part high)))
      ∙ sym (xor_assoc (shifts 32 (shifts 32 (number_part u))) (shifts 32 (shifts 16 (number_part high))) (shifts 16 (number_part low)))
      ∙ ap (λ (x : ℕ). bit_xor x (shifts 16 (number_part low))) (sym (shifts_xor 32 (shifts 32 (number_part u)) (shifts 16 (number_part high))))

-- ---- shorter numbers

-- what is above x^n is added below it, where x^n is 1 + x^k
abbrev pub lowered : ℕ → ℕ → ℕ → ℕ
lowered n k u = bit_xor (bit_xor (u % 2 ^ n) (u / 2 ^ n)) (u / 2 ^ n * 2 ^ k % 2 ^ 64)

lowered_same : (j n k : ℕ) → Power n 0 k → j + n ≡ 64 → k ≤ n → (u : ℕ) → u < 2 ^ 64 → number_part (lowered n k u) ≡ number_part u
unfolding shifts
lowered_same j n k e w h u l =
    number_xor (bit_xor (u % 2 ^ n) (u / 2 ^ n)) (u / 2 ^ n * 2 ^ k % 2 ^ 64)
    ∙ ap₂ bit_xor (number_xor (u % 2 ^ n) (u / 2 ^ n)) (up j k (omega arith) (u / 2 ^ n) high)
    ∙ xor_assoc (number_part (u % 2 ^ n)) (number_part (u / 2 ^ n)) (shifts k (number_part (u / 2 ^ n)))
    ∙ ap (bit_xor (number_part (u % 2 ^ n))) (sym (power_of n 0 k e (u / 2 ^ n)) ∙ sym (up_exact j n (omega arith) (u / 2 ^ n) high))
    ∙ sym (number_xor (u % 2 ^ n) (u / 2 ^ n * 2 ^ n))
    ∙ ap number_part (xor_comm (u % 2 ^ n) (u / 2 ^ n * 2 ^ n) ∙ xor_shifted (u / 2 ^ n) n (u % 2 ^ n) (mod-lt u (pow_pos n)) ∙ split u n)
  where
    high : u / 2 ^ n < 2 ^ j
    high = shr_lt j n (subst (λ (m : ℕ). u < 2 ^ m) (sym w) l)

module _ (u : ℕ) (l : u < 2 ^ 64) where
  pub folded_same : number_part (lowered 30 2 u) ≡ number_part u
  folded_same = lowered_same 34 30 2 power_30 refl (omega arith) u l

  pub folded_lt : lowered 30 2 u < 2 ^ 36
  folded_lt =
      xor_lt 36 (bit_xor (u % 2 ^ 30) (u / 2 ^ 30)) (u / 2 ^ 30 * 2 ^ 2 % 2 ^ 64)
      (xor_lt 36 (u % 2 ^ 30) (u / 2 ^ 30) (omega arith) (omega arith)) (omega arith)

  reduced_same : number_part (lowered 15 1 u) ≡ number_part u
  reduced_same = lowered_same 49 15 1 power_15 refl (omega arith) u l

-- twice, from 36 bits
module _ (u : ℕ) (l : u < 2 ^ 36) where
  once_lt : lowered 15 1 u < 2 ^ 22
  once_lt =
      xor_lt 22 (bit_xor (u % 2 ^ 15) (u / 2 ^ 15)) (u / 2 ^ 15 * 2 ^ 1 % 2 ^ 64)
      (xor_lt 22 (u % 2 ^ 15) (u / 2 ^ 15) (omega arith) (omega arith)) (omega arith)

  pub twice_lt : lowered 15 1 (lowered 15 1 u) < 2 ^ 15
  twice_lt = within (lowered 15 1 u) once_lt
    where
      within : (v : ℕ) → v < 2 ^ 22 → lowered 15 1 v < 2 ^ 15
      within v h =
          xor_lt 15 (bit_xor (v % 2 ^ 15) (v / 2 ^ 15)) (v / 2 ^ 15 * 2 ^ 1 % 2 ^ 64)
          (xor_lt 15 (v % 2 ^ 15) (v / 2 ^ 15) (omega arith) (omega arith)) (omega arith)

  pub twice_same : number_part (lowered 15 1 (lowered 15 1 u)) ≡ number_part u
  twice_same = let h = once_lt in reduced_same (lowered 15 1 u) (omega arith) ∙ reduced_same u (omega arith)
