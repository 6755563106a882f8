use mathlib.Core.Path.{ap, ◌∙◌}
use mir.Syntax.{w32}
use mir.Val.{of_z}
use mir.Facts.{to_z-of_z}
use borrow.Author.Tests.{eq-eqb}
use borrow.Author.Rules.{rules}
use native.Mathlib.Omega.{arith}
use Rattle.lists.specs.Numbers.{bytes_of}
use Rattle.lists.proofs.Numbers.{written_is}
use Rattle.buffers.proofs.Parts.{placed_whole}
use Rattle.table_items.proofs.Signed.{bits_of}
use Rattle.table_access.proofs.Put.{measured_placed}
use Rattle.table_access.proofs.measure.Goals as goal

pub returns-clause-table_after : goal.returns-clause-table_after
unfolding bytes_of
returns-clause-table_after c =
    let a = c.args in
    let l = c.if-table-ne-TABLE_BYTES.false in
    let bytes = c.to_le_bytes-bytes.ensures ∙ written_is _ ∙ ap (bytes_of 4) (ap (of_z w32) (to_z-of_z c.ranges.position) ∙ bits_of a.position) in
    let put = rw bytes at c.place.ensures ∙ placed_whole a.table.now _ 132 (omega arith) in
    rw (eq-eqb _ _ l, put) (measured_placed a.table.now a.position a.error l (search rules))
