use lib.ListN.{length-set}
use borrow.Author.Rules.{rules}
use Rattle.packet_encoder_v1.proofs.Writing.{packet_written}
use Rattle.packet_encoder_v1.proofs.write_packet.Goals as goal

pub shape_of-out : goal.shape_of-out
shape_of-out c = simp length-set (search rules)

pub returns : goal.returns
returns c =
    packet_written c.args.id c.args.instruction c.args.params.now c.args.out.now c.write_front.new.out _ c.requires.1
    c.write_front.ensures c.place.ensures _ c.checksum.ensures
