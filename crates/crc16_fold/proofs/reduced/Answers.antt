use Rattle.crc16_fold.proofs.Powers.{twice_same, twice_lt}
use Rattle.crc16_fold.proofs.reduced.Goals as goal

pub returns : goal.returns
returns c = (twice_lt c.args.u c.requires, twice_same c.args.u c.requires)
