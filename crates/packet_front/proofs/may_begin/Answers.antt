use Rattle.std.proofs.Common.{arith}
use Rattle.std.proofs.lemmas.Grind.{common_steps}
use Rattle.packet_front.specs.Header.{may_begin}
use Rattle.packet_front.proofs.may_begin.Goals as goal

pub returns-then-s-lt4 : goal.returns-then-s-lt4
unfolding may_begin
returns-then-s-lt4 c = grind (arith, common_steps)

pub returns-else-s-lt4 : goal.returns-else-s-lt4
unfolding may_begin
returns-else-s-lt4 c = grind (arith, common_steps)

pub returns-else-s : goal.returns-else-s
unfolding may_begin
returns-else-s c = grind (arith, common_steps)
