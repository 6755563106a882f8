use mathlib.Core.Path.{◌≡◌}
use Prim.Native.Nat.{◌≤◌}
use lib.ListN.{length, take}
use Rattle.reading.specs.Calls.{gap, call}
use Rattle.packet_protocols.specs.Protocols.{rules_of}
use Rattle.reader_core.specs.Results.{most_held}
use Rattle.reader_core.proofs.Answers.{answered}
use borrow.Author.Rules.{rules}
use Rattle.reader_core.proofs.gap.Goals as goal

pub returns : goal.returns
unfolding call
returns g c =
    let a = c.args in
    let d = c.gap_slices-step in
    let p = g.P.Framing.protocol in
    let law = g.met.P.Framing.holds in
    let room = g.met.P.Framing.has_room in
    let few : a.count ≤ most_held p = search rules in
    let held : length d.new.held ≡ most_held p = search rules in
    let packet : length d.new.packet ≡ (rules_of p).longest = search rules in
    answered p a.count (take a.count a.held.now) gap _ _ _ _ _ _ _ few held packet (rw c.protocol.ensures at d.ensures.delivered)
    c.clear_rest.ensures
