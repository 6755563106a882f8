use mathlib.Core.Path.{sym}
use Rattle.stuffing.proofs.Answers.{removed}
use Rattle.device_packet.proofs.carry_out.Goals as goal

pub id_heard-requires : goal.id_heard-requires
id_heard-requires c = (removed _ _ _ (sym c.in_ok-n.ensures.value)).well
