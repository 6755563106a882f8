use mathlib.Core.Path.{◌≡◌}
use mathlib.Core.Bool.{◌&&◌}
use mathlib.Core.Logic.{◌⊎◌}
use Prim.Native.Nat.{◌-◌, ◌≤◌}
use lib.ListN.{length}
use Rattle.table_registers.specs.Registers.{registers}
use Rattle.table_items.specs.Items.{value_in_range}
use Rattle.table_rules.specs.Rules.{stored, covers, every_touched}
use Rattle.table_rules.proofs.Walks.{Border}
use Rattle.table_rules.proofs.judge_items.Given as goal

abbrev pub invariant-loop-a : goal.invariant-loop-a
invariant-loop-a l = let n = length l.bytes in
    let test = value_in_range (stored l.table l.address l.bytes) in
    (l.address ≤ l.a) × (l.a ≤ l.written.end) × ((l.a ≡ l.address) ⊎ Border l.a)
    × (every_touched l.a (l.written.end - l.a) (covers l.address n) registers ≡ every_touched l.address n (covers l.address n) registers)
    × ((l.good && every_touched l.a (l.written.end - l.a) test registers) ≡ every_touched l.address n test registers)

abbrev pub decreases-loop-a : goal.decreases-loop-a
decreases-loop-a l = l.written.end - l.a
