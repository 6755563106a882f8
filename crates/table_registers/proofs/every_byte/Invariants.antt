use mathlib.Core.Path.{◌≡◌}
use Rattle.table_registers.specs.Registers.{every_byte}
use Rattle.table_registers.proofs.every_byte.Given as goal

abbrev pub invariant-loop-left : goal.invariant-loop-left
invariant-loop-left l = every_byte l.least l.a l.left ≡ every_byte l.least l.address l.n

abbrev pub decreases-loop-left : goal.decreases-loop-left
decreases-loop-left l = l.left
