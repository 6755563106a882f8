use mathlib.Core.Path.{◌≡◌, ap, ◌∙◌}
use Prim.Native.Nat.{ℕ, ◌<◌, ◌^◌}
use native.Mathlib.Omega.{arith}
use mir.Syntax.{w32}
use mir.Val.{to_z}
use mir.Facts.{to_z-of_z}
use Rattle.std.proofs.lemmas.Int.{ints}
use Rattle.lists.specs.Numbers.{number_at}
use Rattle.table_items.specs.Items.{signed}
use Rattle.table_items.proofs.signed_of.Goals as goal

read : (u : ℕ) → u < 2 ^ 32 → to_z w32 u ≡ signed u
read u h = grind (arith, ints)

pub returns : goal.returns
unfolding number_at
returns c =
    to_z-of_z {w = w32} (record { sfits = c.from_le_bytes.type_inv })
    ∙ c.from_le_bytes.ensures ∙ ap (to_z w32) (omega arith) ∙ read _ (omega arith)
