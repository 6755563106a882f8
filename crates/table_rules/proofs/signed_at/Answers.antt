use mathlib.Core.Path.{ap, ◌∙◌}
use mir.Syntax.{w32}
use mir.Facts.{to_z-of_z}
use Rattle.table_items.specs.Items.{signed}
use Rattle.lists.proofs.Numbers.{four_bytes}
use Rattle.table_rules.proofs.signed_at.Goals as goal

pub returns : goal.returns
returns c = to_z-of_z {w = w32} (record { sfits = c.signed_of.type_inv }) ∙ c.signed_of.ensures ∙ ap signed (four_bytes _ _)
