use Rattle.std.proofs.Common.{arith}
use Rattle.std.proofs.lemmas.Grind.{common_steps}
use Rattle.packet_v1.specs.Verdict.{may_begin}
use Rattle.packet_v1.proofs.may_begin.Goals as goal

pub returns-then-not-is_empty : goal.returns-then-not-is_empty
unfolding may_begin
returns-then-not-is_empty c = grind (arith, common_steps)

pub returns-else-not-is_empty : goal.returns-else-not-is_empty
unfolding may_begin
returns-else-not-is_empty c = grind (arith, common_steps)
