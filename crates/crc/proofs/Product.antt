-- Shifting is multiplying: k shifts of a register are its product with the register that k shifts make of 1. The product is
-- linear in both factors, and the bits of the second may be taken in parts.
use mathlib.Core.Path.{◌≡◌, refl, sym, ap, ap₂, subst, ◌∙◌}
use Prim.Native.Nat.{ℕ, zero, suc, ◌+◌, ◌*◌, ◌-◌, ◌/◌, ◌%◌, ◌^◌, ◌≤◌, ◌<◌}
use native.Mathlib.Nat.{zero-mul, one-mul, zero-add, suc-add, add_comm, sub-zero, suc-sub-suc, div-eq_of_lt, lt_of_lt_of_le}
use native.Mathlib.Omega.{arith}
use lib.Pow.{pow_mono, split, shr-shr}
use lib.Bits.{bit_xor, xor_comm, xor_lt, xor_mod, xor_shr, xor_zero_r, xor_shifted, shifted_half, shifted_even}
use Rattle.lists.proofs.Xor.{bit_cases, bit_lt, xor_assoc, xor_swap}
use Rattle.crc.specs.Crc.{shift, shifts}
use Rattle.crc.specs.Product.{product}
use Rattle.crc.proofs.Linear.{bits_times, shift_xor, shifts_xor}
use Rattle.crc.proofs.Shifts.{shift_low, shifts_zero, shift_last}
use Rattle.crc.proofs.Laws.{shift_lt}

-- the lowest bit and the others
low_and_rest : (y : ℕ) → y ≡ bit_xor (y % 2) (y / 2 * 2)
low_and_rest y = sym (xor_comm (y % 2) (y / 2 * 2) ∙ xor_shifted (y / 2) 1 (y % 2) (bit_lt y) ∙ split y 1)

shifted_bit : (k t : ℕ) → t < 2 → shifts k t ≡ t * shifts k 1
shifted_bit k t h = bit_cases (λ t. shifts k t ≡ t * shifts k 1) (shifts_zero k ∙ sym (zero-mul (shifts k 1))) (sym (one-mul (shifts k 1))) t h

pub by_product : (n k y : ℕ) → y < 2 ^ n → y < 2 ^ 16 → shifts k y ≡ product n (shifts k 1) y
unfolding shifts product
by_product zero k y h w = let e : y ≡ 0 = omega arith in ap (shifts k) e ∙ shifts_zero k
by_product (suc n) k y h w =
    let rest : y / 2 < 2 ^ 15 = omega arith in
    ap (shifts k) (low_and_rest y)
    ∙ shifts_xor k (y % 2) (y / 2 * 2)
    ∙ ap₂ bit_xor (shifted_bit k (y % 2) (bit_lt y))
    (ap (shifts k) (sym (shift_low (y / 2) rest))
    ∙ by_product n (suc k) (y / 2) (omega arith) (omega arith)
    ∙ ap (λ (a : ℕ). product n a (y / 2)) (sym (shift_last k 1)))

-- a round of the loop: the lowest bit of b goes in
pub product_turn : (n a b : ℕ) → 0 < n → product n a b ≡ bit_xor (b % 2 * a) (product (n - 1) (shift a) (b / 2))
unfolding product
product_turn zero a b h = absurd (omega arith)
product_turn (suc n) a b h = ap (λ (m : ℕ). bit_xor (b % 2 * a) (product m (shift a) (b / 2))) (sym (suc-sub-suc n 0 ∙ sub-zero n))

-- a bit times a register is a register
pub bit_times_lt : (t x : ℕ) → t < 2 → x < 2 ^ 16 → t * x < 2 ^ 16
bit_times_lt t x h k = bit_cases (λ t. t * x < 2 ^ 16) (omega arith) (omega arith) t h

pub product_lt : (n a x : ℕ) → a < 2 ^ 16 → product n a x < 2 ^ 16
unfolding product
product_lt zero a x h = omega arith
product_lt (suc n) a x h =
    xor_lt 16 (x % 2 * a) (product n (shift a) (x / 2)) (bit_times_lt (x % 2) a (bit_lt x) h) (product_lt n (shift a) (x / 2) (shift_lt a))

-- ---- linear in both factors

pub product_xor : (n a x y : ℕ) → product n a (bit_xor x y) ≡ bit_xor (product n a x) (product n a y)
unfolding product
product_xor zero a x y = refl
product_xor (suc n) a x y =
    ap₂ bit_xor
    (ap (λ (t : ℕ). t * a) (xor_mod x y 1) ∙ bits_times a (x % 2) (y % 2) (bit_lt x) (bit_lt y))
    (ap (product n (shift a)) (xor_shr x y 1) ∙ product_xor n (shift a) (x / 2) (y / 2))
    ∙ xor_swap (x % 2 * a) (y % 2 * a) (product n (shift a) (x / 2)) (product n (shift a) (y / 2))

bit_times_xor : (t a b : ℕ) → t < 2 → t * bit_xor a b ≡ bit_xor (t * a) (t * b)
bit_times_xor t a b h =
    bit_cases (λ t. t * bit_xor a b ≡ bit_xor (t * a) (t * b))
    (zero-mul (bit_xor a b) ∙ sym (ap₂ bit_xor (zero-mul a) (zero-mul b)))
    (one-mul (bit_xor a b) ∙ sym (ap₂ bit_xor (one-mul a) (one-mul b))) t h

pub xor_product : (n a b x : ℕ) → product n (bit_xor a b) x ≡ bit_xor (product n a x) (product n b x)
unfolding product
xor_product zero a b x = refl
xor_product (suc n) a b x =
    ap₂ bit_xor (bit_times_xor (x % 2) a b (bit_lt x))
    (ap (λ (c : ℕ). product n c (x / 2)) (shift_xor a b) ∙ xor_product n (shift a) (shift b) (x / 2))
    ∙ xor_swap (x % 2 * a) (x % 2 * b) (product n (shift a) (x / 2)) (product n (shift b) (x / 2))

-- ---- shifts pass through

bit_times_shift : (t a : ℕ) → t < 2 → t * shift a ≡ shift (t * a)
bit_times_shift t a h =
    bit_cases (λ t. t * shift a ≡ shift (t * a))
    (zero-mul (shift a) ∙ sym (ap shift (zero-mul a) ∙ shift_low 0 (omega arith)))
    (one-mul (shift a) ∙ sym (ap shift (one-mul a))) t h

product_shift : (n a x : ℕ) → product n (shift a) x ≡ shift (product n a x)
unfolding product
product_shift zero a x = sym (shift_low 0 (omega arith))
product_shift (suc n) a x =
    ap₂ bit_xor (bit_times_shift (x % 2) a (bit_lt x)) (product_shift n (shift a) (x / 2))
    ∙ sym (shift_xor (x % 2 * a) (product n (shift a) (x / 2)))

pub product_shifts : (n k a x : ℕ) → product n (shifts k a) x ≡ shifts k (product n a x)
unfolding shifts
product_shifts n zero a x = refl
product_shifts n (suc k) a x = product_shifts n k (shift a) x ∙ ap (shifts k) (product_shift n a x)

-- ---- the bits of the second factor in parts

-- the k lowest, and the n above them
pub product_parts : (k n a x : ℕ) → product (k + n) a x ≡ bit_xor (product k a x) (product n (shifts k a) (x / 2 ^ k))
unfolding product shifts
product_parts zero n a x =
    let whole : x ≡ x / 2 ^ 0 = omega arith in
    ap₂ (λ (m y : ℕ). product m a y) (zero-add n) whole
product_parts (suc k) n a x =
    let more : 1 + k ≡ suc k = omega arith in
    ap (λ (m : ℕ). product m a x) (suc-add k n)
    ∙ ap (bit_xor (x % 2 * a)) (product_parts k n (shift a) (x / 2))
    ∙ sym (xor_assoc (x % 2 * a) (product k (shift a) (x / 2)) (product n (shifts k (shift a)) (x / 2 / 2 ^ k)))
    ∙ ap (λ (y : ℕ). bit_xor (bit_xor (x % 2 * a) (product k (shift a) (x / 2))) (product n (shifts k (shift a)) y))
    (shr-shr x 1 k ∙ ap (λ (m : ℕ). x / 2 ^ m) more)

product_zero : (n a : ℕ) → product n a 0 ≡ 0
unfolding product
product_zero zero a = refl
product_zero (suc n) a = ap₂ bit_xor (zero-mul a) (product_zero n (shift a))

-- bits that are 0 add nothing, above the others
product_short : (k n a x : ℕ) → x < 2 ^ k → product (k + n) a x ≡ product k a x
product_short k n a x h =
    product_parts k n a x
    ∙ ap (bit_xor (product k a x)) (ap (product n (shifts k a)) (div-eq_of_lt h) ∙ product_zero n (shifts k a))
    ∙ xor_zero_r (product k a x)

-- and below them
product_up : (k n a x : ℕ) → product (k + n) a (x * 2 ^ k) ≡ product n (shifts k a) x
unfolding product shifts
product_up zero n a x =
    let whole : x * 2 ^ 0 ≡ x = omega arith in
    ap₂ (λ (m y : ℕ). product m a y) (zero-add n) whole
product_up (suc k) n a x =
    ap (λ (m : ℕ). product m a (x * 2 ^ suc k)) (suc-add k n)
    ∙ ap₂ (λ (t y : ℕ). bit_xor (t * a) (product (k + n) (shift a) y)) (shifted_even x k) (shifted_half x k)
    ∙ ap (λ (z : ℕ). bit_xor z (product (k + n) (shift a) (x * 2 ^ k))) (zero-mul a)
    ∙ product_up k n (shift a) x

-- a second factor that moves up within its bits is a product that is shifted
pub product_shl : (w j k : ℕ) → j + k ≤ w → (a x : ℕ) → x < 2 ^ j → product w a (x * 2 ^ k) ≡ shifts k (product w a x)
product_shl w j k h a x l =
    let up : w - k + k ≡ w = omega arith in
    let low : x < 2 ^ (w - k) = lt_of_lt_of_le l (pow_mono {i = j} {j = w - k} (omega arith)) in
    subst (λ (m : ℕ). product m a (x * 2 ^ k) ≡ shifts k (product m a x)) up
    (ap (λ (m : ℕ). product m a (x * 2 ^ k)) (add_comm (w - k) k)
    ∙ product_up k (w - k) a x
    ∙ sym (product_short (w - k) k (shifts k a) x low)
    ∙ product_shifts (w - k + k) k a x)
