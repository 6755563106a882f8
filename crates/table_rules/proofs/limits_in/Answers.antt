use mathlib.Core.Path.{ap₂, ◌∙◌}
use lib.IntN.{ℤ}
use mir.Syntax.{w32}
use mir.Facts.{to_z-of_z}
use borrow.Author.Tests.{eq-eqb, ne_eqb}
use Rattle.table_items.specs.Items.{value_at}
use Rattle.table_rules.specs.declared.PositionLimits.{PositionLimits}
use Rattle.table_rules.proofs.limits_in.Goals as goal

limits_with : ℤ → ℤ → PositionLimits
limits_with low high = record { min = low; max = high }

pub returns-then-table-ne-TABLE_BYTES : goal.returns-then-table-ne-TABLE_BYTES
returns-then-table-ne-TABLE_BYTES c = rw (ne_eqb _ 136 c.if-table-ne-TABLE_BYTES.true)

pub returns : goal.returns
unfolding limits_with value_at
returns c =
    rw (eq-eqb _ 136 c.if-table-ne-TABLE_BYTES.false)
    (ap₂ limits_with
    (to_z-of_z {w = w32} (record { sfits = c.signed_at.type_inv }) ∙ c.signed_at.ensures)
    (to_z-of_z {w = w32} (record { sfits = c.signed_at-2.type_inv }) ∙ c.signed_at-2.ensures))
