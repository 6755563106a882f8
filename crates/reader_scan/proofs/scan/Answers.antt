use mathlib.Core.Path.{◌≡◌, refl, ◌∙◌}
use Prim.Native.Nat.{◌+◌, ◌≤◌}
use native.Mathlib.Omega.{arith}
use lib.ListN.{length, drop}
use Rattle.reading.specs.Reading.{open'}
use Rattle.reading.specs.Calls.{first}
use Rattle.packet_rules.specs.declared.Front.{Front}
use Rattle.packet_rules.specs.Answers.{settled_by}
use Rattle.packet_rules.specs.declared.Verdict.{Verdict}
use Rattle.packet_rules.proofs.Peeks.{Peeked, VerdictIs}
use Rattle.packet_protocols.specs.Protocols.{shape_of, rules_of}
use Rattle.packet_protocols.proofs.Shapes.{laws, some_longest}
use Rattle.reader_scan.proofs.Scans.{scan_packet, scan_bad, scan_nothing, scan_end, scan_waits, scan_wants}
use Rattle.reader_scan.proofs.Peeking.{peek_at, fits_at, none_at, judge_at, nothing_at, start_at}
use borrow.Author.Rules.{rules}
use Rattle.reader_scan.proofs.scan.Goals as goal
use Rattle.reader_scan.proofs.scan.Goals.{in-Whole+in_default-judge_whole, in_default-front, After-judge_whole, After-next_start-at, After-peek-front, In-Whole}

pub loop-protocol-init : goal.loop-protocol-init
loop-protocol-init c = (omega arith, search rules, refl)

-- the offset that is looked at
module _ (f : After-next_start-at) where
  start : (f.args.from ≤ f.next_start-at.result) × (f.loop-protocol.next ≤ f.next_start-at.result) × (f.next_start-at.result ≤ length f.args.s.now)
      × (first (rules_of f.args.protocol) open' (drop f.args.from f.args.s.now) ≡ first (rules_of f.args.protocol) open' (drop f.next_start-at.result f.args.s.now))
  start =
      let i = f.loop-protocol.invariant in
      let n = start_at f.args.protocol f.args.s.now f.loop-protocol.next f.next_start-at.result f.next_start-at.ensures open' i.1 in
      (omega (arith, i.0, n.0), n.0, n.1, i.2 ∙ n.2)

pub returns-then-s-at : goal.returns-then-s-at
returns-then-s-at c =
    let i = start (goal.at.returns-then-s-at c).After-next_start-at in
    let l = c.if-s-at.true in
    (scan_end (rules_of c.args.protocol) (laws c.args.protocol) _ c.args.s.now _ (c.next_start-at.result) i.0 i.3 l i.2, λ h. absurd (omega arith))

-- what the look at the offset tells
module _ (l : After-peek-front) where
  stated : (b : Front) → l.peek-front.result ≡ b → Peeked (rules_of l.args.protocol) (settled_by (shape_of l.args.protocol)) (drop l.next_start-at.result l.args.s.now) b
  stated b e = peek_at l.args.protocol l.args.s.now l.next_start-at.result l.peek-front.result l.peek-front.ensures b e

pub returns-in-Waiting : goal.returns-in-Waiting
returns-in-Waiting c =
    let i = start (goal.at.returns-in-Waiting c).After-next_start-at in
    let w = stated (goal.at.returns-in-Waiting c).After-peek-front _ c.in-Waiting.is in (
      scan_waits (rules_of c.args.protocol) (laws c.args.protocol) c.args.s.now _ c.next_start-at.result i.0 c.if-s-at.false w.0 i.3,
      λ _. scan_wants (rules_of c.args.protocol) (laws c.args.protocol) c.args.s.now _ c.next_start-at.result i.0 c.if-s-at.false w.0 _ w.1,
    )

-- all bytes of a packet are there
whole : (z : In-Whole)
    → z.next_start-at.result + z.in-Whole.size ≤ length z.args.s.now
whole z =
    fits_at z.args.protocol z.args.s.now z.next_start-at.result z.peek-front.result z.peek-front.ensures z.in-Whole.size z.in-Whole.is

pub overflow_add-at : goal.overflow_add-at
overflow_add-at c = omega (arith, whole (goal.at.overflow_add-at c).In-Whole)

pub slice_bounds-judge_whole-end : goal.slice_bounds-judge_whole-end
slice_bounds-judge_whole-end c = whole (goal.at.slice_bounds-judge_whole-end c).In-Whole

-- and what they are
module _ (j : After-judge_whole) where
  judgement : (v : Verdict) → j.judge_whole.result ≡ v → VerdictIs (rules_of j.args.protocol) (drop j.next_start-at.result j.args.s.now) v
  judgement v e =
      judge_at j.args.protocol j.args.s.now j.next_start-at.result j.peek-front.result j.peek-front.ensures j.in-Whole.size j.in-Whole.is j.judge_whole.result v
      j.judge_whole.ensures e

pub returns-in-Packet : goal.returns-in-Packet
returns-in-Packet c =
    let i = start (goal.at.returns-in-Packet c).After-next_start-at in
    (scan_packet (rules_of c.args.protocol) (laws c.args.protocol) _ c.args.s.now _ (c.next_start-at.result) i.0 i.3 _ c.if-s-at.false (judgement (goal.at.returns-in-Packet c).After-judge_whole _ c.in-Packet.is), refl)

pub returns-in-BadChecksum : goal.returns-in-BadChecksum
returns-in-BadChecksum c =
    let i = start (goal.at.returns-in-BadChecksum c).After-next_start-at in
    (scan_bad (rules_of c.args.protocol) (laws c.args.protocol) _ c.args.s.now _ (c.next_start-at.result) i.0 i.3 _ (some_longest c.args.protocol) c.if-s-at.false (judgement (goal.at.returns-in-BadChecksum c).After-judge_whole _ c.in-BadChecksum.is), refl)

pub loop-protocol-smaller : goal.loop-protocol-smaller
loop-protocol-smaller c = let i = start (goal.at.loop-protocol-smaller c).After-next_start-at in omega (arith, i.1, i.2)

pub loop-protocol-preserved : goal.loop-protocol-preserved
loop-protocol-preserved c =
    let i = start (goal.at.loop-protocol-preserved c).After-next_start-at in
    let h = c.if-s-at.false in (
      omega (arith, i.0),
      omega arith,
      scan_nothing (rules_of c.args.protocol) (laws c.args.protocol) open' c.args.s.now _ (c.next_start-at.result) i.0 i.3 h (elim c.match-front-2.branch [
        | in-Whole+in_default-judge_whole w ↦
            nothing_at c.args.protocol c.args.s.now c.next_start-at.result _ c.peek-front.ensures _ w.in-Whole.is w.judge_whole.result w.judge_whole.ensures
            w.in_default-judge_whole.not-Packet w.in_default-judge_whole.not-BadChecksum
        | in_default-front w ↦
            (none_at c.args.protocol c.args.s.now c.next_start-at.result _ c.peek-front.ensures c.in_default.not-Waiting w.in_default-front.not-Whole).0
      ]),
    )
