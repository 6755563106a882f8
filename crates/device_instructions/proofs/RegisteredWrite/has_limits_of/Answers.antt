use mathlib.Core.Path.{◌≡◌, sym, ap, ◌∙◌}
use mathlib.Core.Bool.{◌&&◌}
use Prim.Native.Nat.{ℕ}
use lib.Dec.{eqb}
use lib.ListN.{length}
use mir.Syntax.{w32}
use mir.Val.{of_z, SFits}
use borrow.Author.Tests.{eq-eqb, ne_eqb}
use mathlib.Core.List.{List}
use Rattle.table_registers.specs.Registers.{table_size}
use Rattle.table_items.specs.Items.{same}
use Rattle.table_items.proofs.Same.{same_words}
use Rattle.table_rules.specs.Limits.{limits_in}
use Rattle.table_rules.proofs.Size.{limits_of_lem}
use Rattle.table_rules.specs.declared.PositionLimits.{PositionLimits}
use Rattle.device_instructions.specs.Registered.{same_limits}
use Rattle.device_instructions.specs.declared.RegisteredWrite.{RegisteredWrite}
use borrow.Author.Rules.{rules}
use Rattle.device_instructions.proofs.RegisteredWrite.has_limits_of.Goals as goal

-- the tests of the words, one after the other, of limits that are those in the table
module _ (table : List ℕ) (w : RegisteredWrite) (l : PositionLimits) (e : l ≡ limits_in table) (s : length table ≡ table_size)
    (f : SFits w32 l.min) (g : SFits w32 w.min) where
  by_both : same l.min w.min && same l.max w.max ≡ same_limits table w
  unfolding same_limits
  by_both = ap (λ (l : PositionLimits). same l.min w.min && same l.max w.max) (e ∙ limits_of_lem table s)

  other_min : (of_z w32 l.min ≡ of_z w32 w.min → ⊥) → eqb (of_z w32 l.min) (of_z w32 w.min) ≡ same_limits table w
  other_min n = let t = ne_eqb _ _ n in t ∙ (rw (sym (same_words l.min w.min f g) ∙ t) at by_both)

  same_min : SFits w32 l.max → SFits w32 w.max → of_z w32 l.min ≡ of_z w32 w.min
      → eqb (of_z w32 l.max) (of_z w32 w.max) ≡ same_limits table w
  same_min h k t = same_words l.max w.max h k ∙ (rw (sym (same_words l.min w.min f g) ∙ eq-eqb _ _ t) at by_both)

pub returns-then-limits-self : goal.returns-then-limits-self
returns-then-limits-self c =
    same_min c.args.table.now c.args.self c.limits_in-limits.result c.limits_in-limits.ensures c.requires
    (search rules) (search rules) (search rules)
    (search rules) c.if-limits-self.true

pub returns-else-limits-self : goal.returns-else-limits-self
returns-else-limits-self c =
    other_min c.args.table.now c.args.self c.limits_in-limits.result c.limits_in-limits.ensures c.requires
    (search rules) (search rules) c.if-limits-self.false
