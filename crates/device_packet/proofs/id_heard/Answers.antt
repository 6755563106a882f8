use mathlib.Core.Path.{◌≡◌, sym, ap, ap₂, ◌∙◌}
use Prim.Native.Nat.{ℕ, ◌+◌, ◌-◌, ◌≤◌}
use native.Mathlib.Omega.{arith}
use lib.Dec.{eqb}
use lib.ListN.{length, take, get_or}
use borrow.Author.Tests.{eq-eqb, ne_eqb}
use Rattle.crc.specs.Crc.{crc_from}
use Rattle.packet_front.specs.Front.{word}
use Rattle.packet_rules.specs.Answers.{front_by}
use Rattle.packet_rules.specs.declared.Front.TheVariants.{Whole}
use Rattle.packet.specs.Packet.{checksum_right}
use Rattle.packet.specs.Verdict.{shape}
use Rattle.packet.proofs.Header.{after_header}
use Rattle.device_packet.proofs.Hearing.{not_front, front_beyond, front_long, front_header, wrong_sum, right_sum}
use Rattle.device_packet.proofs.id_heard.Goals as goal
use Rattle.device_packet.proofs.id_heard.Goals.{After-word, Else-n-packet, In-Whole}

pub returns-in_default : goal.returns-in_default
returns-in_default c =
    sym (not_front c.args.packet.now c.peek.result (sym c.peek.ensures)
    c.in_default.not-Whole)

-- all bytes of a packet are there
front_whole : (t : In-Whole) → front_by shape t.args.packet.now ≡ Whole t.in-Whole.n
front_whole t = sym t.peek.ensures ∙ t.in-Whole.is

pub returns-then-n-packet : goal.returns-then-n-packet
returns-then-n-packet c = sym (front_beyond c.args.packet.now _ (front_whole (goal.at.returns-then-n-packet c).In-Whole) (λ e. absurd (omega (arith, e, c.if-n-packet.true))))

-- and they are all that is lent
lent : (k : Else-n-packet) → k.in-Whole.n ≡ length k.args.packet.now
lent k = omega (arith, k.if-n-packet.false)

long : (k : Else-n-packet) → 10 ≤ length k.args.packet.now
long k = front_long _ _ (front_whole (goal.at.overflow_sub-end k).In-Whole) (lent k)

pub overflow_sub-end : goal.overflow_sub-end
overflow_sub-end c = omega (arith, long c, lent c)

pub slice_bounds-checksum-count : goal.slice_bounds-checksum-count
slice_bounds-checksum-count c = omega (arith, long c, lent c)

pub slice_bounds-checksum-start : goal.slice_bounds-checksum-start
slice_bounds-checksum-start c = omega (arith, long c, lent c)

pub bounds-packet-end : goal.bounds-packet-end
bounds-packet-end c = omega (arith, long (goal.at.bounds-packet-end c).Else-n-packet, lent (goal.at.bounds-packet-end c).Else-n-packet)

pub bounds-packet-end-2 : goal.bounds-packet-end-2
bounds-packet-end-2 c = omega (arith, long (goal.at.bounds-packet-end-2 c).Else-n-packet, lent (goal.at.bounds-packet-end-2 c).Else-n-packet)

-- the code's test is that of the definition
sum_test : (c : After-word) → front_by shape c.args.packet.now ≡ Whole c.in-Whole.n → c.in-Whole.n ≡ length c.args.packet.now → 10 ≤ length c.args.packet.now
    → let p = c.args.packet.now in
    checksum_right p ≡ eqb c.checksum-crc.result c.word.result
unfolding checksum_right
sum_test c whole all most =
    let p = c.args.packet.now in
    let n = c.in-Whole.n in
    let l : length p ≡ n = sym all in
    let last : length p - 1 ≡ n - 2 + 1 = omega (arith, l, most) in
    ap₂ eqb
    (ap (λ (m : ℕ). crc_from 0 (take (m - 2) p)) l
    ∙ ap (crc_from 0) (sym (after_header p (n - 2) (front_header p n whole all) (omega (arith, l, most))))
    ∙ sym c.checksum-crc.ensures)
    (ap₂ (λ (i j : ℕ). word (get_or p (i - 2) 0) (get_or p j 0)) l last ∙ sym c.word.ensures)

pub returns-then-crc-word : goal.returns-then-crc-word
returns-then-crc-word c =
    sym (wrong_sum c.args.packet.now _ (front_whole (goal.at.returns-then-crc-word c).In-Whole) (lent (goal.at.returns-then-crc-word c).Else-n-packet)
    (sum_test (goal.at.returns-then-crc-word c).After-word (front_whole (goal.at.returns-then-crc-word c).In-Whole) (lent (goal.at.returns-then-crc-word c).Else-n-packet) (long (goal.at.returns-then-crc-word c).Else-n-packet) ∙ ne_eqb _ _ c.if-crc-word.true))

pub bounds-packet-4 : goal.bounds-packet-4
bounds-packet-4 c = omega (arith, long (goal.at.bounds-packet-4 c).Else-n-packet, lent (goal.at.bounds-packet-4 c).Else-n-packet)

pub returns : goal.returns
returns c = sym (right_sum c.args.packet.now _ (front_whole (goal.at.returns c).In-Whole) (lent (goal.at.returns c).Else-n-packet) (sum_test (goal.at.returns c).After-word (front_whole (goal.at.returns c).In-Whole) (lent (goal.at.returns c).Else-n-packet) (long (goal.at.returns c).Else-n-packet) ∙ eq-eqb _ _ c.if-crc-word.false) c.requires)
