use mathlib.Core.Path.{refl}
use lib.ListN.{replicate}
use borrow.Author.Tests.{ltb-true}
use Rattle.crc.specs.Crc.{reduce_if, shift, shifts, crc_byte, crc_from}
use Rattle.stuffing.specs.Stuffing.{stuff_after}
use Rattle.packet_encoder.specs.Writing.{with_checksum, packet_of}
use Rattle.device_status.specs.Sending.{status_refusal}
use Rattle.device_status.specs.Applied.{longest, ReplyWrittenApplied}

pub reply_written_applied : ReplyWrittenApplied
unfolding reduce_if shift shifts crc_byte crc_from stuff_after with_checksum packet_of status_refusal
reply_written_applied t =
    let w = t longest (replicate 32 0xAA) 22 refl (ltb-true _ _ refl) in
    (w.formed, w.same_id, w.short)
