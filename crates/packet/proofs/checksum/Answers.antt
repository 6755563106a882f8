use mathlib.Core.Path.{sym, ◌∙◌}
use Rattle.crc.specs.Crc.{reduce_if, shift, shifts, crc_byte, crc_from}
use Rattle.packet_front.specs.Front.{header}
use Rattle.packet.proofs.checksum.Goals as goal

pub returns : goal.returns
unfolding reduce_if shift shifts crc_byte crc_from
returns c = c.update.ensures.value ∙ sym (c.update.ensures.checksum_laws.joined 0 header c.args.rest.now)
