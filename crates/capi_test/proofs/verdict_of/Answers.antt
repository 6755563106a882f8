use mathlib.Core.Path.{sym, ap, ◌∙◌}
use Rattle.capi_test.specs.Numbers.{verdict_numbers}
use Rattle.capi_test.proofs.verdict_of.Goals as goal

pub returns-in-Nothing : goal.returns-in-Nothing
returns-in-Nothing c = ap verdict_numbers (sym c.in-Nothing.is ∙ c.judge.ensures)

pub returns-in-Packet : goal.returns-in-Packet
returns-in-Packet c = ap verdict_numbers (sym c.in-Packet.is ∙ c.judge.ensures)

pub returns-in-BadChecksum : goal.returns-in-BadChecksum
returns-in-BadChecksum c = ap verdict_numbers (sym c.in-BadChecksum.is ∙ c.judge.ensures)

pub returns-in-Waiting : goal.returns-in-Waiting
returns-in-Waiting c = ap verdict_numbers (sym c.in-Waiting.is ∙ c.judge.ensures)
