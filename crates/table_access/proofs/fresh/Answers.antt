use mathlib.Core.Path.{ap, ◌∙◌}
use Prim.Native.Nat.{ℕ}
use lib.ListN.{replicate}
use borrow.Author.Tests.{eq-eqb}
use Rattle.lists.specs.Numbers.{bytes_of}
use Rattle.table_registers.specs.Registers.{registers}
use Rattle.table_items.specs.Items.{put}
use Rattle.table_access.specs.Fresh.{freshened}
use Rattle.lists.proofs.Numbers.{written_is}
use Rattle.table_access.proofs.fresh.Goals as goal

-- computed, byte for byte
pub returns-clause-table_after : goal.returns-clause-table_after
unfolding registers bytes_of put freshened
returns-clause-table_after c =
    let l = c.if-table-ne-TABLE_BYTES.false in
    let zeros = c.fill.ensures.after (λ y e. e) ∙ ap (λ (n : ℕ). replicate n 0) l in
    let most = c.to_le_bytes-most.ensures ∙ written_is _ ∙ ap (bytes_of 4) c.from.ensures in
    rw (eq-eqb _ _ l, c.place-2.ensures, c.place.ensures, zeros, c.to_le_bytes-model.ensures, most)
