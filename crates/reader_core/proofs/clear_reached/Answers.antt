use mathlib.Core.Path.{refl}
use Prim.Native.Nat.{◌+◌}
use lib.ListN.{length}
use borrow.Author.Tests.{le-leb, lt-leb}
use Rattle.reader_core.proofs.Lean.{part_cleared}
use borrow.Author.Rules.{rules}
use Rattle.reader_core.proofs.clear_reached.Goals as goal

pub returns-then-room-step : goal.returns-then-room-step
returns-then-room-step c = (
  part_cleared c.args.held.now _ c.args.count c.args.step.held c.args.step.taken c.min.result c.min.ensures c.requires.0 c.requires.1 c.requires.2 c.clear.ensures,
  rw (lt-leb (c.args.count + c.args.step.taken) (length c.args.held.now) (search rules)) (rw c.size.ensures at c.clear-then-room-step.ensures),
)

pub returns-else-room-step : goal.returns-else-room-step
returns-else-room-step c = (
  part_cleared c.args.held.now _ c.args.count c.args.step.held c.args.step.taken c.min.result c.min.ensures c.requires.0 c.requires.1 c.requires.2 c.clear.ensures,
  rw (le-leb (c.args.count + c.args.step.taken) (length c.args.held.now) (search rules)) refl,
)
