use Rattle.crc16_fold.proofs.Powers.{times_16}
use Rattle.crc16_fold.proofs.times_16.Goals as goal

pub returns : goal.returns
returns c = times_16 c.args.w c.requires
