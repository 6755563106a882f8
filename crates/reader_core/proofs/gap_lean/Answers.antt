use mathlib.Core.Path.{refl}
use Prim.Native.Nat.{◌≤◌}
use native.Mathlib.Omega.{arith}
use lib.ListN.{length, take, length-take}
use borrow.Author.Tests.{lt-leb}
use borrow.Author.Rules.{rules}
use Rattle.reading.specs.Calls.{gap, call}
use Rattle.packet_protocols.specs.declared.Protocol.TheVariants.{Two}
use Rattle.reader_core.proofs.Lean.{lean_asks, lean}
use Rattle.reader_core.proofs.gap_lean.Goals as goal
use Rattle.reader_core.proofs.gap_lean.Goals.{Start}

few : (a : Start) → length (take a.args.count a.args.held.now) ≤ a.args.count
few a = omega (arith, length-take a.args.count a.args.held.now)

pub returns-then-count-gt-MAX_HELD : goal.returns-then-count-gt-MAX_HELD
returns-then-count-gt-MAX_HELD c = rw (lt-leb _ 1030 c.if-count-gt-MAX_HELD.true) (refl, refl, refl)

pub clear_reached-requires : goal.clear_reached-requires
unfolding call
clear_reached-requires c =
    let h = take c.args.count c.args.held.now in
    lean_asks Two c.args.count h gap c.args.held.now c.args.packet.now _ _ c.gap_slices-step.result (few (goal.at.clear_reached-requires c).Start) (search rules) (search rules) (search rules) c.gap_slices-step.ensures.delivered c.gap_slices-step.ensures.spared

pub returns : goal.returns
unfolding call
returns c =
    let h = take c.args.count c.args.held.now in
    lean Two c.args.count h gap c.args.held.now c.args.packet.now _ _ c.gap_slices-step.result (few (goal.at.returns c).Start) (search rules) (search rules) (search rules) c.gap_slices-step.ensures.delivered c.gap_slices-step.ensures.spared
    _ _ c.clear_reached.ensures
