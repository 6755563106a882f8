-- The number and the parity that stand for a register: a register stands for itself, and more bytes go into both.
use mathlib.Core.Path.{◌≡◌, refl, sym, ap, ap₂, ◌∙◌}
use mathlib.Core.List.{List, ◌++◌}
use Prim.Native.Nat.{ℕ, zero, suc, ◌+◌, ◌*◌, ◌/◌, ◌%◌, ◌^◌, ◌<◌}
use native.Mathlib.Omega.{arith}
use lib.Bits.{bit_xor, xor_lt, xor_zero_r}
use lib.ListN.{length}
use Rattle.lists.proofs.Xor.{xor_assoc, xor_swap, xor_twice}
use Rattle.crc.specs.Crc.{reduce_if, shift, shifts, crc_from}
use Rattle.crc.specs.Product.{product}
use Rattle.crc.proofs.Linear.{shifts_xor}
use Rattle.crc.proofs.Laws.{checksum_laws}
use Rattle.crc.proofs.Flips.{crc_apart}
use Rattle.crc.proofs.Product.{by_product, product_lt, product_xor, xor_product, product_shifts, product_parts}
use Rattle.crc16_fold.specs.Fold.{number_part, parity_part, register_of, Makes, more}

-- 0x8002 and 0x8003 make 1
pub one_parts : (x : ℕ) → bit_xor (number_part x) (parity_part x) ≡ product 64 1 x
unfolding number_part parity_part
one_parts x = sym (xor_product 64 0x8002 0x8003 x)

pub by_one : (c : ℕ) → c < 2 ^ 16 → product 64 1 c ≡ c
unfolding shifts
by_one c h = sym (by_product 64 0 c (omega arith) h)

pub stands_for_itself : (c : ℕ) → c < 2 ^ 16 → register_of c c ≡ c
unfolding register_of
stands_for_itself c h = one_parts c ∙ by_one c h

pub parity_lt : (p : ℕ) → parity_part p < 2 ^ 16
unfolding parity_part
parity_lt p = product_lt 64 0x8003 p (omega arith)

pub register_lt : (u p : ℕ) → register_of u p < 2 ^ 16
unfolding register_of number_part
register_lt u p = xor_lt 16 (product 64 0x8002 u) (parity_part p) (product_lt 64 0x8002 u (omega arith)) (parity_lt p)

-- ---- the parity

pub parity_xor : (p q : ℕ) → parity_part (bit_xor p q) ≡ bit_xor (parity_part p) (parity_part q)
unfolding parity_part
parity_xor p q = product_xor 64 0x8003 p q

-- a shift leaves x^15 + x + 1
odd_shift : shift 0x8003 ≡ 0x8003
unfolding shift reduce_if
odd_shift = refl

odd_stays : (k : ℕ) → shifts k 0x8003 ≡ 0x8003
unfolding shifts
odd_stays zero = refl
odd_stays (suc k) = ap (shifts k) odd_shift ∙ odd_stays k

parity_stays : (k p : ℕ) → shifts k (parity_part p) ≡ parity_part p
unfolding parity_part
parity_stays k p = sym (product_shifts 64 k 0x8003 p) ∙ ap (λ (a : ℕ). product 64 a p) (odd_stays k)

-- the bits in two halves, one upon the other
pub halved : (k x : ℕ) → product (k + k) 0x8003 x ≡ product k 0x8003 (bit_xor x (x / 2 ^ k))
halved k x =
    product_parts k k 0x8003 x
    ∙ ap (λ (a : ℕ). bit_xor (product k 0x8003 x) (product k a (x / 2 ^ k))) (odd_stays k)
    ∙ sym (product_xor k 0x8003 x (x / 2 ^ k))

pub one_bit : (x : ℕ) → product 1 0x8003 x ≡ x % 2 * 0x8003
unfolding product
one_bit x = xor_zero_r (x % 2 * 0x8003)

-- ---- the register

-- from a number that is a register, and of which the parity may be wrong
pub register_from : (d u p : ℕ) → d < 2 ^ 16 → number_part d ≡ number_part u
    → bit_xor d (parity_part (bit_xor d p)) ≡ register_of u p
unfolding register_of
register_from d u p h e =
    ap₂ bit_xor (sym (stands_for_itself d h)) (parity_xor d p)
    ∙ xor_assoc (number_part d) (parity_part d) (bit_xor (parity_part d) (parity_part p))
    ∙ ap₂ bit_xor e (xor_twice (parity_part d) (parity_part p))

-- bytes go in: into the part of the number, and with their bits into the parity
pub taken : (part p w : ℕ) (bytes : List ℕ) → Makes bytes w
    → bit_xor (more (length bytes * 8) part (number_part w)) (parity_part (bit_xor p w)) ≡ crc_from (bit_xor part (parity_part p)) bytes
taken part p w bytes m =
    let k = length bytes * 8 in
    ap (bit_xor (more k part (number_part w))) (parity_xor p w ∙ ap₂ bit_xor (sym (parity_stays k p)) (sym (parity_stays 16 w)))
    ∙ xor_swap (shifts k part) (shifts 16 (number_part w)) (shifts k (parity_part p)) (shifts 16 (parity_part w))
    ∙ ap₂ bit_xor (sym (shifts_xor k part (parity_part p))) (sym (shifts_xor 16 (number_part w) (parity_part w)))
    ∙ ap (bit_xor (shifts k (bit_xor part (parity_part p)))) (ap (shifts 16) (one_parts w) ∙ m)
    ∙ sym (crc_apart (bit_xor part (parity_part p)) bytes)

module _ (u p r : ℕ) where
  pub taken_once : (w : ℕ) (bytes : List ℕ) → Makes bytes w → number_part r ≡ more (length bytes * 8) (number_part u) (number_part w)
      → register_of r (bit_xor p w) ≡ crc_from (register_of u p) bytes
  unfolding register_of
  taken_once w bytes m e = ap (λ (x : ℕ). bit_xor x (parity_part (bit_xor p w))) e ∙ taken (number_part u) p w bytes m

  pub taken_twice : (v w : ℕ) (a b : List ℕ) → Makes a v → Makes b w
      → number_part r ≡ more (length b * 8) (more (length a * 8) (number_part u) (number_part v)) (number_part w)
      → register_of r (bit_xor (bit_xor p v) w) ≡ crc_from (register_of u p) (a ++ b)
  unfolding register_of
  taken_twice v w a b m n e =
      let between = more (length a * 8) (number_part u) (number_part v) in
      ap (λ (x : ℕ). bit_xor x (parity_part (bit_xor (bit_xor p v) w))) e
      ∙ taken between (bit_xor p v) w b n
      ∙ ap (λ (x : ℕ). crc_from x b) (taken (number_part u) p v a m)
      ∙ sym (checksum_laws.joined (bit_xor (number_part u) (parity_part p)) a b)
