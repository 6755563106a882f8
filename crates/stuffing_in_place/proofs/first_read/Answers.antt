use Rattle.stuffing_in_place.proofs.Plain.{plain_whole, plain_before}
use Rattle.stuffing_in_place.proofs.first_read.Goals as goal

pub returns-then-plain-body : goal.returns-then-plain-body
returns-then-plain-body c =
    let b = c.before_fd-plain in
    plain_whole c.args.body.now b.result c.if-plain-body.true b.ensures.1

pub returns : goal.returns
returns c =
    let b = c.before_fd-plain in
    rw c.saturating_sub.ensures (plain_before c.args.body.now b.result b.ensures.0 b.ensures.1)
