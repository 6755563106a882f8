use mathlib.Core.Path.{◌≡◌, refl, ◌∙◌}
use Prim.Native.Nat.{◌+◌, ◌≤◌, ◌<◌}
use native.Mathlib.Omega.{arith}
use lib.ListN.{length, drop, length-drop}
use Rattle.reading.specs.Reading.{closed}
use Rattle.reading.specs.Calls.{first}
use Rattle.packet_rules.specs.declared.Front.{Front}
use Rattle.packet_rules.specs.Answers.{settled_by}
use Rattle.packet_rules.specs.declared.Verdict.{Verdict}
use Rattle.packet_rules.proofs.Laws.{undecided}
use Rattle.packet_rules.proofs.Peeks.{Peeked, VerdictIs}
use Rattle.packet_protocols.specs.Protocols.{shape_of, rules_of}
use Rattle.packet_protocols.proofs.Shapes.{laws, shapes_kept, some_longest}
use Rattle.reader_scan.proofs.Scans.{scan_packet, scan_bad, scan_nothing, scan_few, scan_end}
use Rattle.reader_scan.proofs.Peeking.{peek_at, fits_at, peek_past, judge_at, nothing_at, start_at}
use Rattle.reader_scan.proofs.scan_closed.Goals as goal
use Rattle.reader_scan.proofs.scan_closed.Goals.{in-Whole+in_default-judge_whole, in_default, After-judge_whole, After-next_start-at, After-peek, In-Whole}

pub loop-protocol-init : goal.loop-protocol-init
loop-protocol-init c = (omega arith, refl)

-- the offset that is looked at
module _ (f : After-next_start-at) where
  start : (f.loop-protocol.from ≤ f.next_start-at.result) × (f.next_start-at.result ≤ length f.args.segment.now) × (first (rules_of f.args.protocol) closed f.args.segment.now ≡ first (rules_of f.args.protocol) closed (drop f.next_start-at.result f.args.segment.now))
  start =
      let i = f.loop-protocol.invariant in
      let n = start_at f.args.protocol f.args.segment.now f.loop-protocol.from f.next_start-at.result f.next_start-at.ensures closed i.0 in
      (n.0, n.1, i.1 ∙ n.2)

pub returns-then-segment-at : goal.returns-then-segment-at
returns-then-segment-at c =
    let i = start (goal.at.returns-then-segment-at c).After-next_start-at in
    scan_end (rules_of c.args.protocol) (laws c.args.protocol) closed c.args.segment.now 0 (c.next_start-at.result) (omega arith) i.2 c.if-segment-at.true i.1

pub returns-then-segment-at-2 : goal.returns-then-segment-at-2
returns-then-segment-at-2 c =
    scan_few (rules_of c.args.protocol) c.args.segment.now (c.next_start-at.result) (shape_of c.args.protocol).shortest (undecided (shape_of c.args.protocol) (shapes_kept c.args.protocol)) (start (goal.at.returns-then-segment-at-2 c).After-next_start-at).2
    (omega (arith, length-drop (c.next_start-at.result) c.args.segment.now, c.if-segment-at-2.true, c.shortest.ensures))

-- what the look at the offset tells
module _ (l : After-peek) where
  some : l.next_start-at.result < length l.args.segment.now
  some = l.if-segment-at.false

  stated : (b : Front) → l.peek.result ≡ b → Peeked (rules_of l.args.protocol) (settled_by (shape_of l.args.protocol)) (drop l.next_start-at.result l.args.segment.now) b
  stated b e = peek_at l.args.protocol l.args.segment.now l.next_start-at.result l.peek.result l.peek.ensures b e

-- all bytes of a packet are there
whole : (z : In-Whole) → z.next_start-at.result + z.in-Whole.size ≤ length z.args.segment.now
whole z =
    fits_at z.args.protocol z.args.segment.now z.next_start-at.result z.peek.result z.peek.ensures z.in-Whole.size z.in-Whole.is

pub overflow_add-at : goal.overflow_add-at
overflow_add-at c = omega (arith, whole (goal.at.overflow_add-at c).In-Whole)

pub slice_bounds-judge_whole-end : goal.slice_bounds-judge_whole-end
slice_bounds-judge_whole-end c = whole (goal.at.slice_bounds-judge_whole-end c).In-Whole

-- and what they are
module _ (j : After-judge_whole) where
  judgement : (v : Verdict) → j.judge_whole.result ≡ v → VerdictIs (rules_of j.args.protocol) (drop j.next_start-at.result j.args.segment.now) v
  judgement v e =
      judge_at j.args.protocol j.args.segment.now j.next_start-at.result j.peek.result j.peek.ensures j.in-Whole.size j.in-Whole.is j.judge_whole.result v
      j.judge_whole.ensures e

pub returns-in-Packet : goal.returns-in-Packet
returns-in-Packet c = scan_packet (rules_of c.args.protocol) (laws c.args.protocol) closed c.args.segment.now 0 (c.next_start-at.result) (omega arith) (start (goal.at.returns-in-Packet c).After-next_start-at).2 _ (some (goal.at.returns-in-Packet c).After-peek) (judgement (goal.at.returns-in-Packet c).After-judge_whole _ c.in-Packet.is)

pub returns-in-BadChecksum : goal.returns-in-BadChecksum
returns-in-BadChecksum c =
    scan_bad (rules_of c.args.protocol) (laws c.args.protocol) closed c.args.segment.now 0 (c.next_start-at.result) (omega arith) (start (goal.at.returns-in-BadChecksum c).After-next_start-at).2 _ (some_longest c.args.protocol) (some (goal.at.returns-in-BadChecksum c).After-peek)
    (judgement (goal.at.returns-in-BadChecksum c).After-judge_whole _ c.in-BadChecksum.is)

pub loop-protocol-smaller : goal.loop-protocol-smaller
loop-protocol-smaller c = omega (arith, (start (goal.at.loop-protocol-smaller c).After-next_start-at).0, some (goal.at.loop-protocol-smaller c).After-peek)

pub loop-protocol-preserved : goal.loop-protocol-preserved
loop-protocol-preserved c =
    let there = some (goal.at.loop-protocol-preserved c).After-peek in
    let told = stated (goal.at.loop-protocol-preserved c).After-peek _ refl in
    let before = (start (goal.at.loop-protocol-preserved c).After-next_start-at).2 in
    let R = rules_of c.args.protocol in
    let L = laws c.args.protocol in
    let passed : first R closed (drop c.next_start-at.result c.args.segment.now) ≡ first R closed (drop (c.next_start-at.result + 1) c.args.segment.now) = elim c.match-peek.branch [
      | in-Whole+in_default-judge_whole w ↦
          scan_nothing R L closed c.args.segment.now c.next_start-at.result c.next_start-at.result (omega arith) refl there
          (nothing_at c.args.protocol c.args.segment.now c.next_start-at.result _ c.peek.ensures _ w.in-Whole.is w.judge_whole.result w.judge_whole.ensures
          w.in_default-judge_whole.not-Packet w.in_default-judge_whole.not-BadChecksum)
      | in_default w ↦
          peek_past R L (settled_by (shape_of c.args.protocol)) c.args.segment.now c.next_start-at.result there c.peek.result told w.in_default.not-Whole
    ] in
    (omega (arith, there), before ∙ passed)
