use mathlib.Core.Path.{◌≡◌, sym, ◌∙◌}
use mathlib.Core.Logic.{◌⊎◌, inl, inr}
use Prim.Native.Nat.{ℕ, ◌+◌, ◌≤◌, ◌<◌, max}
use native.Mathlib.Omega.{arith}
use lib.ListN.{length, drop}
use Rattle.packet_rules.specs.declared.Front.{Front}
use Rattle.packet_rules.specs.declared.Front.TheVariants.{Nothing, Whole}
use Rattle.packet_rules.specs.Answers.{settled_by}
use Rattle.packet_rules.specs.declared.Verdict.{Verdict}
use Rattle.packet_rules.proofs.Peeks.{Peeked, VerdictIs}
use Rattle.packet_protocols.specs.Protocols.{shape_of, rules_of}
use Rattle.packet_protocols.proofs.Shapes.{laws, settles, some_lacking, some_longest}
use Rattle.reader_scan.proofs.Seeking.{Sought, sought_start, sought_none, sought_next, sought_packet, sought_bad, sought_end}
use Rattle.reader_scan.proofs.Peeking.{peek_at, fits_at, judge_at, nothing_at, start_sought}
use Rattle.reader_scan.proofs.advance.Goals as goal
use Rattle.reader_scan.proofs.advance.Goals.{in-Nothing, in-Whole, in-Whole-front+in_default-judge_whole, in_default, After-judge_whole, After-next_start-at, After-peek-front, Joined-front}

pub loop-protocol-init : goal.loop-protocol-init
loop-protocol-init c =
    let p = c.args.protocol in
    sought_start (rules_of p) (laws p) (settled_by (shape_of p)) (settles p) _

-- the offset that is looked at
module _ (f : After-next_start-at) where
  sought : Sought (rules_of f.args.protocol) (settled_by (shape_of f.args.protocol)) f.args.chunk.now f.next_start-at.result f.loop-protocol.end
  sought = start_sought f.args.protocol f.args.chunk.now f.loop-protocol.past f.next_start-at.result f.next_start-at.ensures f.loop-protocol.end f.loop-protocol.invariant

pub returns-then-chunk-at : goal.returns-then-chunk-at
returns-then-chunk-at c =
    (sought_end (rules_of c.args.protocol) (laws c.args.protocol) (settled_by (shape_of c.args.protocol)) (settles c.args.protocol) c.args.chunk.now (c.next_start-at.result) c.loop-protocol.end (sought (goal.at.returns-then-chunk-at c).After-next_start-at) (inr c.if-chunk-at.true))

-- what the look at the offset tells
module _ (l : After-peek-front) where
  some : l.next_start-at.result < length l.args.chunk.now
  some = l.if-chunk-at.false

  stated : (b : Front) → l.peek-front.result ≡ b → Peeked (rules_of l.args.protocol) (settled_by (shape_of l.args.protocol)) (drop l.next_start-at.result l.args.chunk.now) b
  stated b e = peek_at l.args.protocol l.args.chunk.now l.next_start-at.result l.peek-front.result l.peek-front.ensures b e

pub returns-in-Waiting : goal.returns-in-Waiting
returns-in-Waiting c =
    (sought_end (rules_of c.args.protocol) (laws c.args.protocol) (settled_by (shape_of c.args.protocol)) (settles c.args.protocol) c.args.chunk.now (c.next_start-at.result) c.loop-protocol.end (sought (goal.at.returns-in-Waiting c).After-next_start-at) (inl (stated (goal.at.returns-in-Waiting c).After-peek-front _ c.in-Waiting.is).0))

-- all bytes of a packet are there
fits : (l : After-peek-front) (n : ℕ) → l.peek-front.result ≡ Whole n → l.next_start-at.result + n ≤ length l.args.chunk.now
fits l n e = fits_at l.args.protocol l.args.chunk.now l.next_start-at.result l.peek-front.result l.peek-front.ensures n e

pub overflow_add-at : goal.overflow_add-at
overflow_add-at c = omega (arith, fits (goal.at.overflow_add-at c).After-peek-front _ c.in-Whole.is)

later : (a b m : ℕ) → m ≡ max a b → (a ≤ m) × (b ≤ m) × ((m ≡ a) ⊎ (m ≡ b))
later a b m e = (omega arith, omega arith, grind arith)

-- behind the arms that go on: the front is as before, and where it is whole the bytes up to the end settle the offset too
module _ (k : Joined-front) where
  abbrev settled : ℕ
  settled = (settled_by (shape_of k.args.protocol)) (drop k.next_start-at.result k.args.chunk.now)

  same : k.match-front.front ≡ k.peek-front.result
  same = elim k.match-front.branch [ in-Nothing w ↦ w.front-is | in-Whole w ↦ w.front-is ∙ sym w.in-Whole.is ]

  module _ (told : (b : Front) → k.peek-front.result ≡ b → Peeked (rules_of k.args.protocol) (settled_by (shape_of k.args.protocol)) (drop k.next_start-at.result k.args.chunk.now) b) where
    settling : (n : ℕ) → k.match-front.front ≡ Whole n
        → (k.loop-protocol.end ≤ k.match-front.end) × (k.next_start-at.result + settled ≤ k.match-front.end) × ((k.match-front.end ≡ k.loop-protocol.end) ⊎ (k.match-front.end ≡ k.next_start-at.result + settled))
    settling n e = elim k.match-front.branch [
      | in-Nothing w ↦ let z = sym w.in-Nothing.is ∙ sym same ∙ e in cc
      | in-Whole w ↦ let z : settled ≡ w.in-Whole.size = told (Whole _) w.in-Whole.is in rw (w.end-is, z) (later _ _ _ w.max-end.ensures)
    ]

    unsettled : ((n : ℕ) → k.match-front.front ≡ Whole n → ⊥)
        → (k.match-front.end ≡ k.loop-protocol.end) × Peeked (rules_of k.args.protocol) (settled_by (shape_of k.args.protocol)) (drop k.next_start-at.result k.args.chunk.now) Nothing
    unsettled e = elim k.match-front.branch [
      | in-Nothing w ↦ (w.end-is, told Nothing w.in-Nothing.is)
      | in-Whole w ↦ absurd (e _ (same ∙ w.in-Whole.is))
    ]

pub overflow_add-at-in-Whole-front : goal.overflow_add-at-in-Whole-front
overflow_add-at-in-Whole-front c =
    let told = sym (same (goal.at.overflow_add-at-in-Whole-front c).Joined-front) ∙ c.in-Whole-front.is in
    omega (arith, fits (goal.at.overflow_add-at-in-Whole-front c).After-peek-front _ told)

pub slice_bounds-judge_whole-end : goal.slice_bounds-judge_whole-end
slice_bounds-judge_whole-end c =
    let told = sym (same (goal.at.slice_bounds-judge_whole-end c).Joined-front) ∙ c.in-Whole-front.is in
    fits (goal.at.slice_bounds-judge_whole-end c).After-peek-front _ told

-- and what its bytes are
judgement : (j : After-judge_whole) → j.match-front.front ≡ j.peek-front.result → (v : Verdict) → j.judge_whole.result ≡ v
    → VerdictIs (rules_of j.args.protocol) (drop j.next_start-at.result j.args.chunk.now) v
judgement j z v e =
    judge_at j.args.protocol j.args.chunk.now j.next_start-at.result j.peek-front.result j.peek-front.ensures j.in-Whole-front.size (sym z ∙ j.in-Whole-front.is) j.judge_whole.result v
    j.judge_whole.ensures e

pub returns-in-Packet : goal.returns-in-Packet
returns-in-Packet c =
    let k = (goal.at.returns-in-Packet c).Joined-front in
    let b = settling k (stated (goal.at.returns-in-Packet c).After-peek-front) _ c.in-Whole-front.is in
    (sought_packet (rules_of c.args.protocol) (laws c.args.protocol) (settled_by (shape_of c.args.protocol)) (settles c.args.protocol) c.args.chunk.now (c.next_start-at.result) c.loop-protocol.end (sought (goal.at.returns-in-Packet c).After-next_start-at) c.match-front.end (some (goal.at.returns-in-Packet c).After-peek-front) b.0
    b.1 b.2 _ (some_lacking c.args.protocol) (judgement (goal.at.returns-in-Packet c).After-judge_whole (same k) _ c.in-Packet.is))

pub returns-in-BadChecksum : goal.returns-in-BadChecksum
returns-in-BadChecksum c =
    let k = (goal.at.returns-in-BadChecksum c).Joined-front in
    let b = settling k (stated (goal.at.returns-in-BadChecksum c).After-peek-front) _ c.in-Whole-front.is in
    (sought_bad (rules_of c.args.protocol) (laws c.args.protocol) (settled_by (shape_of c.args.protocol)) (settles c.args.protocol) c.args.chunk.now (c.next_start-at.result) c.loop-protocol.end (sought (goal.at.returns-in-BadChecksum c).After-next_start-at) c.match-front.end (some (goal.at.returns-in-BadChecksum c).After-peek-front) b.0
    b.1 b.2 _ (some_longest c.args.protocol) (some_lacking c.args.protocol) (judgement (goal.at.returns-in-BadChecksum c).After-judge_whole (same k) _ c.in-BadChecksum.is))

pub loop-protocol-smaller : goal.loop-protocol-smaller
loop-protocol-smaller c = omega (arith, c.next_start-at.ensures, some (goal.at.loop-protocol-smaller c).After-peek-front)

-- an offset that is passed: its bytes are all there and say nothing, or no packet begins
pub loop-protocol-preserved : goal.loop-protocol-preserved
loop-protocol-preserved c =
    let k = (goal.at.loop-protocol-preserved c).Joined-front in
    let told = stated (goal.at.loop-protocol-preserved c).After-peek-front in
    let there = some (goal.at.loop-protocol-preserved c).After-peek-front in
    let so_far = sought (goal.at.loop-protocol-preserved c).After-next_start-at in
    let R = rules_of c.args.protocol in
    let L = laws c.args.protocol in
    let by = settled_by (shape_of c.args.protocol) in
    let S = settles c.args.protocol in
    elim c.match-front-2.branch [
      | in-Whole-front+in_default-judge_whole w ↦
          let b = settling k told _ w.in-Whole-front.is in
          sought_next R L by S c.args.chunk.now c.next_start-at.result c.loop-protocol.end so_far c.match-front.end there b.0 b.1 b.2
          (nothing_at c.args.protocol c.args.chunk.now c.next_start-at.result _ c.peek-front.ensures _ (sym (same k) ∙ w.in-Whole-front.is) w.judge_whole.result w.judge_whole.ensures
          w.in_default-judge_whole.not-Packet w.in_default-judge_whole.not-BadChecksum)
      | in_default w ↦
          let u = unsettled k told w.in_default.not-Whole in
          rw u.0 (sought_none R L by S c.args.chunk.now c.next_start-at.result c.loop-protocol.end so_far there u.1)
    ]
