use mathlib.Core.Path.{◌∙◌}
use Rattle.crc16_fold.proofs.Powers.{joined_lt, eight_in}
use Rattle.crc16_fold.proofs.eight_more.Goals as goal

pub times_16-requires : goal.times_16-requires
times_16-requires c = joined_lt c.args.high c.args.low c.requires.1 c.requires.2

pub returns : goal.returns
returns c =
    let v = c.times_16 in
    (c.folded.ensures.0, c.folded.ensures.1 ∙ eight_in c.args.high c.args.low c.requires.1 c.requires.2 c.args.u v.result c.requires.0 v.ensures)
