use mathlib.Core.Path.{◌∙◌}
use Rattle.crc16_fold.proofs.Powers.{byte_in}
use Rattle.crc16_fold.proofs.byte_more.Goals as goal

pub returns : goal.returns
returns c =
    let v = c.times_16 in
    (c.folded.ensures.0, c.folded.ensures.1 ∙ byte_in c.args.u v.result c.args.w c.requires.0 v.ensures)
