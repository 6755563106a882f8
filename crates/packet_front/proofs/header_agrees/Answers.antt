use Rattle.std.proofs.Common.{◌∙◌, sym}
use Rattle.packet_front.proofs.Header.{agrees_whole}
use Rattle.packet_front.proofs.header_agrees.Goals as goal

pub returns-then-s-ge4 : goal.returns-then-s-ge4
returns-then-s-ge4 c = c.has_header.ensures ∙ sym (agrees_whole _ c.if-s-ge4.true)
