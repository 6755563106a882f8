-- Shifts of the register: many at once, none of a register that is 0, and bytes of 0, each of which is eight of them.
use mathlib.Core.Path.{◌≡◌, refl, sym, ap, ◌∙◌}
use Prim.Native.Nat.{ℕ, zero, suc, ◌+◌, ◌*◌, ◌%◌, ◌^◌, ◌<◌}
use native.Mathlib.Nat.{div-eq_of_lt, mod-eq_of_lt, add_comm, zero-add, suc-add, pow-suc}
use native.Mathlib.Numerals.{add-one}
use native.Mathlib.Omega.{arith}
use lib.Pow.{pow_pos}
use lib.Bits.{xor_zero_r}
use lib.ListN.{replicate}
use Rattle.crc.specs.Crc.{reduce_if, shift, shifts, crc_byte, crc_from}

-- nothing leaves a register whose bit 15 is 0
pub shift_low : (c : ℕ) → c < 2 ^ 15 → shift c ≡ c * 2
unfolding shift reduce_if
shift_low c h = ap (λ (t : ℕ). reduce_if (t % 2) (c * 2 % 2 ^ 16)) (div-eq_of_lt h) ∙ mod-eq_of_lt (omega arith)

-- and nothing leaves it in k shifts where its k highest bits are 0
pub shifts_low : (k c : ℕ) → c * 2 ^ k < 2 ^ 16 → shifts k c ≡ c * 2 ^ k
unfolding shifts
shifts_low zero c h = omega arith
shifts_low (suc k) c h =
    let twice : c * 2 ^ suc k ≡ c * 2 * 2 ^ k = ap (λ (p : ℕ). c * p) (pow-suc 2 k) ∙ regroup c (2 ^ k) in
    let low : c < 2 ^ 15 = half c (2 ^ k) (pow_pos k) (omega (arith, twice)) in
    ap (shifts k) (shift_low c low) ∙ shifts_low k (c * 2) (omega (arith, twice)) ∙ sym twice
  where
    regroup : (c p : ℕ) → c * (p * 2) ≡ c * 2 * p
    regroup c p = omega arith

    half : (c p : ℕ) → 0 < p → c * 2 * p < 2 ^ 16 → c < 2 ^ 15
    half c zero h l = absurd (omega arith)
    half c (suc p) h l = omega arith

pub shifts_zero : (n : ℕ) → shifts n 0 ≡ 0
unfolding shifts
shifts_zero zero = refl
shifts_zero (suc n) = ap (shifts n) (shift_low 0 (omega arith)) ∙ shifts_zero n

pub shifts_add : (m n c : ℕ) → shifts (m + n) c ≡ shifts n (shifts m c)
unfolding shifts
shifts_add zero n c = ap (λ (k : ℕ). shifts k c) (zero-add n)
shifts_add (suc m) n c = ap (λ (k : ℕ). shifts k c) (suc-add m n) ∙ shifts_add m n (shift c)

pub shifts_swap : (m n c : ℕ) → shifts m (shifts n c) ≡ shifts n (shifts m c)
shifts_swap m n c = sym (shifts_add n m c) ∙ ap (λ (k : ℕ). shifts k c) (add_comm n m) ∙ shifts_add m n c

-- one more shift may come last too
pub shift_last : (n c : ℕ) → shift (shifts n c) ≡ shifts (suc n) c
unfolding shifts
shift_last n c = sym (shifts_add n 1 c) ∙ ap (λ (k : ℕ). shifts k c) (add-one n)

pub zeros_shift : (n c : ℕ) → crc_from c (replicate n 0) ≡ shifts (n * 8) c
unfolding crc_from crc_byte shifts
zeros_shift zero c = refl
zeros_shift (suc n) c =
    ap (λ (x : ℕ). crc_from (shifts 8 x) (replicate n 0)) (xor_zero_r c)
    ∙ zeros_shift n (shifts 8 c)
    ∙ sym (shifts_add 8 (n * 8) c)
    ∙ ap (λ (k : ℕ). shifts k c) more
  where
    more : 8 + n * 8 ≡ suc n * 8
    more = omega arith
