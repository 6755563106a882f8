use mathlib.Core.Path.{◌≡◌, ap, ◌∙◌}
use mathlib.Core.Bool.{cond}
use mathlib.Core.List.{[], ◌∷◌}
use native.Mathlib.Omega.{arith}
use lib.ListN.{set, length-append, length-take, length-drop}
use borrow.Rule.Slice.PartMut.{put_mid}
use Rattle.lists.specs.Numbers.{bytes_of}
use Rattle.lists.specs.Write.{placed}
use Rattle.table_registers.specs.Registers.{registers}
use Rattle.lists.proofs.Numbers.{written_is}
use Rattle.buffers.proofs.Parts.{placed_whole}
use Rattle.table_resets.proofs.Resets.{filled, rom_stores}
use Rattle.table_resets.proofs.reset_rom.Goals as goal
use Rattle.table_resets.proofs.reset_rom.Goals.{then-not-keeps_id, else-not-keeps_id, then-not-keeps_baud, else-not-keeps_baud}

pub returns-clause-table_after : goal.returns-clause-table_after
unfolding registers bytes_of
returns-clause-table_after c =
    let table = c.args.table.now in
    let l = c.if-table-ne-TABLE_BYTES.false in
    let id : c.if-not-keeps_id.table ≡ cond c.args.keeps_id table (set table 7 1) = elim c.if-not-keeps_id.branch [
      | then-not-keeps_id w ↦ rw w.if-not-keeps_id.true w.table-is
      | else-not-keeps_id w ↦ rw w.if-not-keeps_id.false w.table-is
    ] in
    let kept = c.if-not-keeps_id.table in
    let baud : c.if-not-keeps_baud.table ≡ cond c.args.keeps_baud kept (set kept 8 1) = elim c.if-not-keeps_baud.branch [
      | then-not-keeps_baud w ↦ rw w.if-not-keeps_baud.true w.table-is
      | else-not-keeps_baud w ↦ rw w.if-not-keeps_baud.false w.table-is
    ] in
    let first = filled c.if-not-keeps_baud.table _ 20 4 (c.fill.ensures.after (λ y e. e)) (omega arith) in
    let most = c.to_le_bytes-most.ensures ∙ written_is _ ∙ ap (bytes_of 4) c.from.ensures in
    let part = put_mid 20 4 c.if-not-keeps_baud.table (0 ∷ 0 ∷ 0 ∷ 0 ∷ []) in
    let put : c.place.new.buffer ≡ placed part 48 (bytes_of 4 4095) =
    rw (first, most) at c.place.ensures ∙ placed_whole part (bytes_of 4 4095) 48 (simp (length-append, length-take, length-drop) (omega arith)) in
    let last = filled c.place.new.buffer _ 52 4 (c.fill-2.ensures.after (λ y e. e)) (rw put (simp (length-append, length-take, length-drop) (omega arith))) in
    rw (last, put, baud, id) (rom_stores table l c.args.keeps_id c.args.keeps_baud)
