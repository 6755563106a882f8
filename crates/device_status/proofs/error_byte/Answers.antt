use borrow.Author.Tests.{eq-eqb, ne_eqb}
use Rattle.device_status.proofs.error_byte.Goals as goal

pub returns-then-hardware-eq0 : goal.returns-then-hardware-eq0
returns-then-hardware-eq0 c = rw (eq-eqb _ _ c.if-hardware-eq0.true)

pub returns : goal.returns
returns c = rw (ne_eqb _ _ c.if-hardware-eq0.false)
