use mathlib.Core.Path.{◌≡◌, sym, ap, ◌∙◌}
use mathlib.Core.Bool.{not}
use Prim.Native.Nat.{◌+◌, ◌-◌, ◌<◌, ◌≤◌}
use native.Mathlib.Omega.{arith}
use lib.ListN.{length, take, drop, length-drop}
use Rattle.reading.specs.Rules.{Verdict, is_packet}
use Rattle.packet_rules.specs.Answers.{answer_for}
use Rattle.packet_rules.proofs.Answers.{was_packet}
use Rattle.packet.specs.Verdict.{protocol2, verdict}
use Rattle.packet.proofs.Laws.{laws}
use Rattle.plan_check.proofs.Bodies.{packet_yes, packet_no}
use Rattle.plan_check.proofs.Rests.{halfway_start, halfway_next, halfway_none, halfway_clash, halfway_end}
use Rattle.plan_check.proofs.is_plan.Goals as goal
use Rattle.plan_check.proofs.is_plan.Goals.{In-Packet}

pub loop-at-init : goal.loop-at-init
loop-at-init c = halfway_start c.args.goals.now c.args.plan.now

pub returns-in_default : goal.returns-in_default
returns-in_default c =
    let a = c.args in
    halfway_none a.goals.now a.plan.now c.loop-at.stood c.loop-at.at c.loop-at.invariant c.loop-at-test.true
    (λ n e. c.in_default.not-Packet n (c.judge.ensures ∙ ap (λ (v : Verdict). answer_for v (protocol2.lacks (drop c.loop-at.at a.plan.now))) e))

-- what is known of a packet
module _ (k : In-Packet) where
  seen : verdict (drop k.loop-at.at k.args.plan.now) ≡ is_packet k.in-Packet.n
  seen = was_packet _ (protocol2.lacks (drop k.loop-at.at k.args.plan.now)) k.in-Packet.n (sym k.judge.ensures ∙ k.in-Packet.is)

  there : (0 < k.in-Packet.n) × (k.loop-at.at + k.in-Packet.n ≤ length k.args.plan.now)
  there = let s = laws.sound (drop k.loop-at.at k.args.plan.now) k.in-Packet.n seen in (s.0, omega (arith, s.1, length-drop k.loop-at.at k.args.plan.now, k.loop-at-test.true))

  part : k.loop-at.at + k.in-Packet.n - k.loop-at.at ≡ k.in-Packet.n
  part = omega arith

pub overflow_add-at : goal.overflow_add-at
overflow_add-at c = let t = (there c).1 in omega arith

pub slice_bounds-mark_packet-end : goal.slice_bounds-mark_packet-end
slice_bounds-mark_packet-end c = let t = (there c).1 in omega arith

pub slice_bounds-mark_packet-end-in-loop-at : goal.slice_bounds-mark_packet-end-in-loop-at
slice_bounds-mark_packet-end-in-loop-at c = sym c.loop-at.invariant.long

pub mark_packet-requires : goal.mark_packet-requires
mark_packet-requires c = (c.requires, c.loop-at.invariant.long, rw (part (goal.at.mark_packet-requires c).In-Packet) (laws.sound (drop c.loop-at.at c.args.plan.now) c.in-Packet.n (seen (goal.at.mark_packet-requires c).In-Packet)).2)

pub returns-then-not-mark_packet : goal.returns-then-not-mark_packet
returns-then-not-mark_packet c =
    let a = c.args in
    halfway_clash a.goals.now a.plan.now c.loop-at.stood c.loop-at.at c.loop-at.invariant c.in-Packet.n c.loop-at-test.true (seen (goal.at.returns-then-not-mark_packet c).In-Packet)
    (packet_no a.goals.now c.loop-at.stood (take c.in-Packet.n (drop c.loop-at.at c.args.plan.now)) _ c.mark_packet.result (rw (part (goal.at.returns-then-not-mark_packet c).In-Packet) at c.mark_packet.ensures) (ap not c.if-not-mark_packet.true))

pub overflow_add-at-in-loop-at : goal.overflow_add-at-in-loop-at
overflow_add-at-in-loop-at c = let t = (there (goal.at.overflow_add-at-in-loop-at c).In-Packet).1 in omega arith

pub loop-at-smaller : goal.loop-at-smaller
loop-at-smaller c = let t = there (goal.at.loop-at-smaller c).In-Packet in let p = t.0 in let q = t.1 in omega arith

pub loop-at-preserved : goal.loop-at-preserved
loop-at-preserved c =
    let a = c.args in
    let y = packet_yes a.goals.now c.loop-at.stood (take c.in-Packet.n (drop c.loop-at.at c.args.plan.now)) c.mark_packet.new.stood c.mark_packet.result (rw (part (goal.at.loop-at-preserved c).In-Packet) at c.mark_packet.ensures) (ap not c.if-not-mark_packet.false) in
    halfway_next a.goals.now a.plan.now c.loop-at.stood c.mark_packet.new.stood c.loop-at.at c.in-Packet.n c.loop-at.invariant c.loop-at-test.true (seen (goal.at.loop-at-preserved c).In-Packet) y.0 y.1

pub slice_bounds-all_stood-end : goal.slice_bounds-all_stood-end
slice_bounds-all_stood-end c = sym c.loop-at.invariant.long

pub returns : goal.returns
returns c =
    let a = c.args in
    halfway_end a.goals.now a.plan.now c.loop-at.stood c.loop-at.at c.loop-at.invariant c.all_stood.result c.loop-at-test.false c.all_stood.ensures
