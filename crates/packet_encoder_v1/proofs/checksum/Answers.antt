use Rattle.std.proofs.Common.{arith}
use Rattle.packet_v1.specs.Packet.{sum}
use Rattle.packet_encoder_v1.proofs.checksum.Goals as goal

pub returns : goal.returns
unfolding sum
returns c = omega (arith, c.sum_from.ensures)
