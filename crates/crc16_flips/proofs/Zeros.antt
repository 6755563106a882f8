-- Bytes of 0 by squaring: `count` of them are count * 8 shifts, of which as many as `left` has halvings remain.
use mathlib.Core.Path.{◌≡◌, refl, sym, ap, ◌∙◌}
use Prim.Native.Nat.{ℕ, ◌+◌, ◌*◌, ◌/◌, ◌%◌, ◌^◌, ◌<◌}
use native.Mathlib.Nat.{zero-mul, one-mul}
use native.Mathlib.Omega.{arith}
use lib.ListN.{replicate}
use Rattle.crc.specs.Crc.{reduce_if, shift, shifts, crc_from}
use Rattle.crc.proofs.Shifts.{shifts_add, zeros_shift}
use Rattle.crc.specs.Product.{product}
use Rattle.crc.proofs.Product.{by_product}

-- at each round: `power` stands for k shifts, and `left` times k shifts of `sum` are those that were asked for
pub record Turn (crc count sum power left : ℕ) : Type 0 where
  pub k : ℕ
  pub small : sum < 2 ^ 16
  pub within : power < 2 ^ 16
  pub stands : power ≡ shifts k 1
  pub asked : shifts (left * k) sum ≡ shifts (count * 8) crc

pub first : (crc count : ℕ) → crc < 2 ^ 16 → Turn crc count crc 0x0100 count
unfolding reduce_if shift shifts
first crc count h = record { k = 8; small = h; within = omega arith; stands = refl; asked = refl }

module _ {crc count sum power left : ℕ} (t : Turn crc count sum power left) where
  -- a product with the power is k shifts
  shifted_by : (y : ℕ) → y < 2 ^ 16 → product 16 power y ≡ shifts t.k y
  shifted_by y h = ap (λ (p : ℕ). product 16 p y) t.stands ∙ sym (by_product 16 t.k y h h)

  squared : product 16 power power ≡ shifts (t.k + t.k) 1
  squared = shifted_by power t.within ∙ ap (shifts t.k) t.stands ∙ sym (shifts_add t.k t.k 1)

  -- an odd count: k shifts now
  pub odd : left % 2 ≡ 1 → product 16 power sum ≡ shifts (left % 2 * t.k) sum
  odd e = shifted_by sum t.small ∙ ap (λ (n : ℕ). shifts n sum) (sym (ap (λ (b : ℕ). b * t.k) e ∙ one-mul t.k))

  -- an even count: none
  pub even : left % 2 ≡ 0 → sum ≡ shifts (left % 2 * t.k) sum
  unfolding shifts
  even e = ap (λ (n : ℕ). shifts n sum) (sym (ap (λ (b : ℕ). b * t.k) e ∙ zero-mul t.k))

  -- the other shifts are half as many times twice k
  pub next : (s p : ℕ) → s ≡ shifts (left % 2 * t.k) sum → s < 2 ^ 16 → p ≡ product 16 power power → p < 2 ^ 16
      → Turn crc count s p (left / 2)
  next s p e h f g =
      let l : left / 2 * 2 + left % 2 ≡ left = omega arith in
      record {
        k = t.k + t.k;
        small = h;
        within = g;
        stands = f ∙ squared;
        asked =
            ap (shifts (left / 2 * (t.k + t.k))) e
            ∙ sym (shifts_add (left % 2 * t.k) (left / 2 * (t.k + t.k)) sum)
            ∙ ap (λ (n : ℕ). shifts n sum) (halves (left / 2) (left % 2) t.k ∙ ap (λ (n : ℕ). n * t.k) l)
            ∙ t.asked;
      }
    where
      halves : (h b k : ℕ) → b * k + h * (k + k) ≡ (h * 2 + b) * k
      halves h b k = omega arith

  -- none are left
  pub last : left ≡ 0 → sum ≡ crc_from crc (replicate count 0)
  unfolding shifts
  last e =
      ap (λ (n : ℕ). shifts n sum) (sym (ap (λ (n : ℕ). n * t.k) e ∙ zero-mul t.k))
      ∙ t.asked ∙ sym (zeros_shift count crc)
