use mathlib.Core.Path.{◌≡◌, ap, ◌∙◌}
use Prim.Native.Nat.{◌+◌, ◌*◌, ◌≤◌}
use native.Mathlib.Omega.{arith}
use lib.ListN.{length, drop, length-append, length-drop}
use Rattle.lists.specs.Write.{overwritten}
use Rattle.plan.specs.Planner.{plan_of}
use Rattle.plan_writer.proofs.Sending.{sending_start, sending_room, sending_next, sending_end}
use Rattle.plan_writer.proofs.write_packets.Goals as goal
use Rattle.plan_writer.proofs.write_packets.Goals.{After-min-k, After-loop-left}

pub loop-left-init : goal.loop-left-init
loop-left-init c = sending_start c.args.goals.now c.args.out.now c.args.n c.requires.1 c.requires.2

-- the round: as many entries as fit
module _ (m : After-min-k) where
  there : (m.loop-left.at + (14 + 5 * m.min-k.result) ≤ length m.loop-left.out) × (length m.loop-left.out ≡ length m.args.out.now)
  there =
      let h = m.loop-left in
      sending_room m.args.goals.now m.args.out.now h.out h.left h.next h.at m.min-k.result h.invariant m.loop-left-test.true m.min-k.ensures m.requires.3

pub write_packet-next-requires : goal.write_packet-next-requires
write_packet-next-requires c =
    let x = c.loop-left.invariant in
    let e = c.min-k.ensures in
    let n = x.counts in
    (c.requires.0, omega (arith, e), omega (arith, e), x.rises, (there (goal.at.write_packet-next-requires c).After-min-k).0)

pub overflow_mul-at : goal.overflow_mul-at
overflow_mul-at c = let e = c.min-k.ensures in omega (arith, e)

pub overflow_add-at : goal.overflow_add-at
overflow_add-at c = let e = c.min-k.ensures in omega (arith, e)

pub overflow_add-at-in-loop-left : goal.overflow_add-at-in-loop-left
overflow_add-at-in-loop-left c = let t = there (goal.at.overflow_add-at-in-loop-left c).After-min-k in let r = t.0 in let q = t.1 in omega arith

pub overflow_sub-left : goal.overflow_sub-left
overflow_sub-left c = let e = c.min-k.ensures in omega (arith, e)

pub loop-left-smaller : goal.loop-left-smaller
loop-left-smaller c = let e = c.min-k.ensures in let t = c.loop-left-test.true in omega (arith, e)

pub loop-left-preserved : goal.loop-left-preserved
loop-left-preserved c =
    let h = c.loop-left in
    sending_next c.args.goals.now c.args.out.now h.out h.left h.next h.at c.min-k.result h.invariant c.loop-left-test.true c.min-k.ensures
    c.write_packet-next.new.out c.write_packet-next.result c.write_packet-next.ensures.result_value c.write_packet-next.ensures.out_after

done : (c : After-loop-left) → c.loop-left.out ≡ overwritten c.args.out.now (plan_of c.args.goals.now)
done c =
    let h = c.loop-left in
    sending_end c.args.goals.now c.args.out.now h.out h.left h.next h.at h.invariant (omega (arith, c.loop-left-test.false))

pub shape_of-out : goal.shape_of-out
shape_of-out c =
    let p = plan_of c.args.goals.now in
    ap length (done c) ∙ length-append p (drop (length p) c.args.out.now) ∙ omega (arith, length-drop (length p) c.args.out.now, c.requires.3)

pub returns : goal.returns
returns c = done c
