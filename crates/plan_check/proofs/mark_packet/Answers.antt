use mathlib.Core.Path.{◌≡◌, refl, sym, subst}
use mathlib.Core.List.{List}
use Prim.Native.Nat.{ℕ, ◌≤◌}
use lib.ListN.{length, take}
use lib.Seq.{length-take-le}
use Rattle.stuffing.specs.Stuffing.{unstuff}
use Rattle.packet.specs.Packet.{body_of}
use Rattle.plan_check.specs.Checking.{BodySays}
use Rattle.plan_check.proofs.Bodies.{never_refused, body_taken, packet_says}
use Rattle.plan_check.proofs.mark_packet.Goals as goal
use Rattle.plan_check.proofs.mark_packet.Goals.{In-Ok}

pub returns-then-packet : goal.returns-then-packet
returns-then-packet c = λ g. absurd (c.if-packet.true g.to_all)

pub returns-in_default : goal.returns-in_default
returns-in_default c =
    λ g. absurd
    (never_refused c.args.packet.now _ g.well refl c.unstuff.result c.unstuff.ensures.value _
    c.in_default.is)

-- the buffer, once the body is in it
taken : (k : In-Ok) → let n = k.in-Ok.n in
    let out = k.unstuff.new.out in
    (n ≤ length out) × (take n out ≡ unstuff (body_of k.args.packet.now))
taken k =
    body_taken k.args.packet.now _ k.requires.2 refl k.unstuff.result _ _ k.unstuff.ensures.value k.in-Ok.is k.unstuff.ensures.out_after

pub slice_bounds-mark_body-end : goal.slice_bounds-mark_body-end
slice_bounds-mark_body-end c = sym (length-take-le _ _ (taken (goal.at.slice_bounds-mark_body-end c).In-Ok).0)

pub returns : goal.returns
returns c =
    packet_says c.args.goals.now c.args.stood.now c.args.packet.now c.mark_body.new.stood c.mark_body.result c.requires.2
    c.if-packet.false
    (subst (λ (l : List ℕ). BodySays c.args.goals.now c.args.stood.now l c.mark_body.new.stood c.mark_body.result) (taken (goal.at.returns c).In-Ok).1 c.mark_body.ensures)
