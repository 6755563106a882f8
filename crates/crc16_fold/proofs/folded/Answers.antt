use Rattle.crc16_fold.proofs.Powers.{folded_same, folded_lt}
use Rattle.crc16_fold.proofs.folded.Goals as goal

pub returns : goal.returns
returns c = (folded_lt c.args.u c.ranges.u.fits, folded_same c.args.u c.ranges.u.fits)
