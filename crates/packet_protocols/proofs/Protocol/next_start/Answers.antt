use mathlib.Core.Path.{refl, ◌∙◌}
use Prim.Native.Nat.{◌-◌}
use native.Mathlib.Omega.{arith}
use Rattle.packet_rules.proofs.Starts.{start_here, start_later, start_past, may_at}
use Rattle.packet_protocols.specs.Protocols.{may_begin_of}
use Rattle.packet_protocols.proofs.Protocol.next_start.Goals as goal

pub loop-at-init : goal.loop-at-init
loop-at-init c = refl

pub returns-then-may_begin : goal.returns-then-may_begin
returns-then-may_begin c =
    let s = c.args.segment.now in
    let may = may_begin_of c.args.self in
    omega (
      arith,
      c.loop-at.invariant,
      start_here may s c.loop-at.at c.loop-at-test.true (may_at may s c.loop-at.at _ _ c.may_begin.ensures c.if-may_begin.true),
    )

pub loop-at-preserved : goal.loop-at-preserved
loop-at-preserved c =
    let s = c.args.segment.now in
    let may = may_begin_of c.args.self in
    c.loop-at.invariant
    ∙ start_later may s c.loop-at.at c.loop-at-test.true (may_at may s c.loop-at.at _ _ c.may_begin.ensures c.if-may_begin.false)

pub returns : goal.returns
returns c = omega (arith, c.loop-at.invariant, start_past (may_begin_of c.args.self) c.args.segment.now c.loop-at.at c.loop-at-test.false)
