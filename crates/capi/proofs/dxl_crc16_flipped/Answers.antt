use Rattle.crc.proofs.Flips.{flipped}
use Rattle.capi.proofs.dxl_crc16_flipped.Goals as goal

pub returns : goal.returns
returns c =
    record {
      value = c.flipped.ensures;
      flipped_checksum = flipped;
    }
