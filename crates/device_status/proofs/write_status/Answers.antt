use mathlib.Core.Path.{◌≡◌}
use lib.ListN.{length, length-take}
use native.Mathlib.Omega.{arith}
use Rattle.device_status.proofs.Sending.{params_are}
use borrow.Author.Rules.{rules}
use Rattle.device_status.proofs.write_status.Goals as goal
use Rattle.device_status.proofs.write_status.Goals.{After-encode}

pub slice_bounds-encode-end : goal.slice_bounds-encode-end
slice_bounds-encode-end c = simp length-take (omega arith)

full : (g : After-encode) → length g.args.reply.bytes ≡ 8
full g = search rules

pub returns : goal.returns
returns c =
    let a = c.args.reply in
    let p = params_are a.error a.count a.bytes (full (goal.at.returns c).After-encode) in
    record {
      value = rw p at c.encode.ensures.value;
      out_after = rw p at c.encode.ensures.out_after;
    }
