use Rattle.std.proofs.Common.{arith}
use Rattle.std.proofs.lemmas.Grind.{common_steps}
use Rattle.packet_v1.specs.Verdict.{front_agrees}
use Rattle.packet_v1.proofs.front_agrees.Goals as goal

pub returns-then-is_none_or-2 : goal.returns-then-is_none_or-2
unfolding front_agrees
returns-then-is_none_or-2 c = grind (arith, common_steps)

pub returns-else-is_none_or-2 : goal.returns-else-is_none_or-2
unfolding front_agrees
returns-else-is_none_or-2 c = grind (arith, common_steps)
