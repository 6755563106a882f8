use Rattle.std.proofs.Common.{◌≡◌, ℕ, ◌-◌, ◌%◌, eqb, length, take, drop, get_or, ap, ◌∙◌, arith}
use Rattle.std.proofs.lemmas.Bool.{eq-eqb, ne_eqb, le-leb}
use Rattle.packet_v1.specs.Packet.{sum, checksum_right}
use Rattle.packet_v1.proofs.judge_whole.Goals as goal
use Rattle.packet_v1.proofs.judge_whole.Goals.{After-sum_from}

-- the code's test is that of the definition
sum_test : (p : After-sum_from)
    → checksum_right p.args.packet.now ≡ eqb (get_or p.args.packet.now (length p.args.packet.now - 1) 0) (255 - p.sum_from.result)
unfolding checksum_right
sum_test p =
    let w = p.args.packet.now in
    let k : length w - 3 ≡ length w - 1 - 2 = omega arith in
    let e : sum (take (length w - 3) (drop 2 w)) % 256 ≡ p.sum_from.result =
    ap (λ (n : ℕ). sum (take n (drop 2 w)) % 256) k ∙ omega (arith, p.sum_from.ensures) in
    ap (λ (n : ℕ). eqb (get_or w (length w - 1) 0) (255 - n)) e

pub returns-then-packet-end : goal.returns-then-packet-end
returns-then-packet-end c =
    let w = c.args.packet.now in
    rw (le-leb 6 (length w) c.if-n-lt-V1_MIN_PACKET.false, sum_test (goal.at.returns-then-packet-end c).After-sum_from ∙ ne_eqb _ _ c.if-packet-end.true)

pub returns : goal.returns
returns c =
    let w = c.args.packet.now in
    rw (le-leb 6 (length w) c.if-n-lt-V1_MIN_PACKET.false, sum_test (goal.at.returns c).After-sum_from ∙ eq-eqb _ _ c.if-packet-end.false)
