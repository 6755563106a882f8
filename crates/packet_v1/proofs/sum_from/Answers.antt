use Rattle.std.proofs.Common.{◌≡◌, ◌+◌, ◌%◌, subst, arith, rules}
use Rattle.std.proofs.lemmas.Fn.{fold_over, slice_gives, fronts}
use Rattle.packet_v1.specs.Packet.{sum}
use Rattle.packet_v1.proofs.Sums.{sum_push, sum_none}
use Rattle.packet_v1.proofs.sum_from.Goals as goal

pub returns : goal.returns
returns c =
    let fits = c.ranges.start.fits in
    subst (λ bytes. c.fold.result ≡ (c.args.start + sum bytes) % 256) c.iter.ensures.rest
    (fold_over fronts (λ b. b.now) _ (λ bytes total. total ≡ (c.args.start + sum bytes) % 256) _
    (λ bytes total b t f' so_far k. let more = sum_push bytes b.now in search rules)
    _ _ _ _ (slice_gives c.iter.result) (omega (arith, sum_none)) c.fold.ensures.ran)
