use mathlib.Core.Path.{◌≡◌, ◌∙◌}
use Prim.Native.Nat.{◌*◌, ◌%◌, ◌^◌, ◌<◌}
use native.Mathlib.Omega.{arith}
use Rattle.crc.specs.Crc.{shifts}
use Rattle.crc16_flips.proofs.Zeros.{first, odd, even, next, last}
use Rattle.crc16_flips.proofs.after_zeros.Goals as goal
use Rattle.crc16_flips.proofs.after_zeros.Goals.{then-left-eq1, else-left-eq1, After-times-power}

pub loop-left-init : goal.loop-left-init
loop-left-init c = first _ _ c.ranges.crc.fits

-- where the branches meet: the sum after its shifts, a register
summed : (c : After-times-power)
    → (c.if-left-eq1.sum ≡ shifts (c.loop-left.left % 2 * c.loop-left.invariant.k) c.loop-left.sum) × (c.if-left-eq1.sum < 2 ^ 16)
summed c =
    let t = c.loop-left.invariant in
    elim c.if-left-eq1.branch [
      | then-left-eq1 w ↦ (w.sum-is ∙ w.times-sum.ensures ∙ odd t w.if-left-eq1.true, rw w.sum-is w.times-sum.type_inv)
      | else-left-eq1 w ↦ (w.sum-is ∙ even t (omega (arith, w.if-left-eq1.false)), rw w.sum-is t.small)
    ]

pub loop-left-preserved : goal.loop-left-preserved
loop-left-preserved c = next c.loop-left.invariant _ _ (summed c).0 (summed c).1 c.times-power.ensures c.times-power.type_inv

pub returns : goal.returns
returns c = last c.loop-left.invariant (omega arith)
