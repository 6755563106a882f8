use Rattle.std.proofs.Common.{◌∙◌}
use Rattle.packet_front.specs.Front.{length_of}
use Rattle.packet_protocols.proofs.Protocol.length_in.Goals as goal

pub returns-in-Two : goal.returns-in-Two
unfolding length_of
returns-in-Two c = rw c.in-Two.is (c.from.ensures ∙ c.word.ensures)
