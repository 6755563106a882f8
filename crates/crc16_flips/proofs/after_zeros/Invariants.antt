use Rattle.crc16_flips.proofs.Zeros.{Turn}
use Rattle.crc16_flips.proofs.after_zeros.Given as goal

abbrev pub invariant-loop-left : goal.invariant-loop-left
invariant-loop-left l = Turn l.crc l.count l.sum l.power l.left

abbrev pub decreases-loop-left : goal.decreases-loop-left
decreases-loop-left l = l.left
