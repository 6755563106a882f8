use mathlib.Core.Path.{◌≡◌}
use Prim.Native.Nat.{◌-◌}
use native.Mathlib.Omega.{arith}
use lib.ListN.{length}
use Rattle.packet.specs.Packet.{body_of}
use Rattle.packet.proofs.body.Goals as goal

pub returns-then-packet-lt9 : goal.returns-then-packet-lt9
unfolding body_of
returns-then-packet-lt9 c = let e : length c.args.packet.now - 9 ≡ 0 = omega arith in rw e

pub returns-else-packet-lt9 : goal.returns-else-packet-lt9
unfolding body_of
returns-else-packet-lt9 c =
    let n = length c.args.packet.now in
    let e : n - 2 - 7 ≡ n - 9 = omega arith in
    rw e
