use mathlib.Core.Path.{ap}
use Prim.Native.Nat.{ℕ, ◌+◌}
use Rattle.board.proofs.Body.{placed_is, count_is}
use Rattle.board.proofs.strip_packet.Goals as goal

pub returns : goal.returns
returns c =
    let e = c.unstuff_in_place.ensures in
    let n = count_is c.args.packet.now c.args.size c.requires.0 c.requires.1 _ e.body_after _ e.value in
    record {
      value = ap (λ (k : ℕ). 7 + k) n;
      packet_after = placed_is c.args.packet.now c.args.size c.requires.0 c.requires.1 _ e.body_after;
    }
