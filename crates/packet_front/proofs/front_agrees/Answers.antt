use Rattle.std.proofs.Common.{arith}
use Rattle.std.proofs.lemmas.Grind.{common_steps}
use Rattle.packet_front.specs.Header.{front_agrees}
use Rattle.packet_front.proofs.front_agrees.Goals as goal

pub returns-then-header_agrees : goal.returns-then-header_agrees
unfolding front_agrees
returns-then-header_agrees c = grind (arith, common_steps)

pub returns-else-header_agrees : goal.returns-else-header_agrees
unfolding front_agrees
returns-else-header_agrees c = grind (arith, common_steps)
