use mathlib.Core.Path.{◌≡◌, sym, ap, ◌∙◌}
use mathlib.Core.Bool.{◌&&◌}
use lib.IntN.{ℤ}
use lib.Signed.{le_z}
use mir.Syntax.{w32}
use mir.Facts.{to_z-of_z}
use borrow.Author.Rules.{rules}
use Rattle.table_items.specs.Items.{value_at}
use Rattle.table_items.proofs.Signed.{value_word, value_byte, one_byte}
use Rattle.table_rules.proofs.in_range.Goals as goal
use Rattle.table_rules.proofs.in_range.Goals.{then-row-eq-SIGNED_BYTES, else-row-eq-SIGNED_BYTES}

pub returns : goal.returns
returns c =
    let row = c.args.row in
    let low = to_z-of_z {w = w32} {z = row.low} (search rules) in
    let high = to_z-of_z {w = w32} {z = row.high} (search rules) in
    let v : c.if-row-eq-SIGNED_BYTES.value ≡ value_at c.args.bytes.now c.args.k row.bytes = elim c.if-row-eq-SIGNED_BYTES.branch [
      | then-row-eq-SIGNED_BYTES w ↦
          sym c.if-row-eq-SIGNED_BYTES.value-is ∙ w.value-is ∙ to_z-of_z {w = w32} (record { sfits = w.signed_at-value.type_inv })
          ∙ w.signed_at-value.ensures ∙ sym (value_word _ _ _ w.if-row-eq-SIGNED_BYTES.true)
      | else-row-eq-SIGNED_BYTES w ↦
          sym c.if-row-eq-SIGNED_BYTES.value-is ∙ w.value-is ∙ to_z-of_z {w = w32} (record { sfits = w.from-value.type_inv })
          ∙ w.from-value.ensures ∙ sym (value_byte _ _ _ (one_byte _ c.requires.1 w.if-row-eq-SIGNED_BYTES.false))
    ] in
    (simp (low, high, c.if-row-eq-SIGNED_BYTES.value-is) at c.within.ensures) ∙ ap (λ (z : ℤ). le_z row.low z && le_z z row.high) v
