use mathlib.Core.Path.{◌≡◌, refl, ap, ◌∙◌}
use mir.Syntax.{w32}
use mir.Val.{of_z}
use mir.Facts.{to_z-of_z}
use native.Mathlib.Omega.{arith}
use lib.ListN.{length, take, drop, set, length-take, length-drop, length-set}
use Rattle.lists.specs.Numbers.{bytes_of}
use Rattle.lists.proofs.Numbers.{written_is}
use Rattle.buffers.proofs.Parts.{placed_over}
use Rattle.table_items.proofs.Signed.{bits_of}
use Rattle.plan_writer.proofs.Writing.{entry_placed}
use Rattle.plan_writer.proofs.write_entry.Goals as goal

pub returns : goal.returns
unfolding bytes_of
returns c =
    let bytes = c.to_le_bytes.ensures ∙ written_is _ ∙ ap (bytes_of 4) (ap (of_z w32) (to_z-of_z c.ranges.goal) ∙ bits_of c.args.goal) in
    let part = take 4 (drop 1 (set c.args.out.now 0 c.args.id)) in
    let size : length c.to_le_bytes.result ≡ length part = simp (length-take, length-drop, length-set) (omega (arith, ap length c.to_le_bytes.ensures, c.requires)) in
    let put = placed_over part c.to_le_bytes.result c.place.new.buffer c.place.ensures size ∙ bytes in
    rw put (entry_placed c.args.out.now (bytes_of 4 _) c.args.id c.requires refl)
