use mathlib.Core.Path.{◌≡◌, sym, ap, ◌∙◌}
use Prim.Native.Nat.{ℕ, ◌+◌, ◌*◌, ◌-◌, ◌/◌, ◌%◌}
use native.Mathlib.Omega.{arith}
use lib.Bits.{bit_xor, xor_zero_r}
use Rattle.lists.proofs.Xor.{bit_lt, xor_assoc}
use Rattle.crc.specs.Crc.{shift}
use Rattle.crc.specs.Product.{product}
use Rattle.crc.proofs.Product.{product_turn, bit_times_lt}
use borrow.Author.Rules.{rules}
use Rattle.crc16_flips.proofs.times.Goals as goal

pub loop-init : goal.loop-init
loop-init c = (search rules, search rules)

pub overflow_mul-sum : goal.overflow_mul-sum
overflow_mul-sum c = omega (arith, bit_times_lt _ _ (bit_lt c.loop.y) c.loop.invariant.0)

pub loop-preserved : goal.loop-preserved
loop-preserved c =
    let h = c.loop in
    let fewer : 16 - (h.counter + 1) ≡ 16 - h.counter - 1 = omega arith in
    let bit = h.y % 2 * h.x in
    let rest : ℕ → ℕ = λ (x : ℕ). product (16 - h.counter - 1) x (h.y / 2) in (
      c.shifted-x.type_inv,
      rw fewer (ap (λ (x : ℕ). bit_xor (bit_xor h.sum bit) (rest x)) c.shifted-x.ensures
          ∙ xor_assoc h.sum bit (rest (shift h.x))
          ∙ ap (bit_xor h.sum) (sym (product_turn (16 - h.counter) h.x h.y (omega arith)))
          ∙ h.invariant.1),
    )

pub returns : goal.returns
unfolding product
returns c =
    let h = c.loop in
    let none : 16 - h.counter ≡ 0 = omega arith in
    sym (xor_zero_r h.sum) ∙ ap (λ (n : ℕ). bit_xor h.sum (product n h.x h.y)) (sym none) ∙ h.invariant.1
