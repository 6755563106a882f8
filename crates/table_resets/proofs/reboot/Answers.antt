use native.Mathlib.Omega.{arith}
use mathlib.Core.Path.{ap}
use lib.ListN.{set, length-set}
use borrow.Rule.Slice.PartMut.{put_mid}
use Rattle.lists.specs.Numbers.{bytes_of}
use Rattle.table_registers.specs.Registers.{registers}
use Rattle.table_resets.proofs.Resets.{filled, reboot_stores}
use Rattle.table_resets.proofs.reboot.Goals as goal

pub returns-clause-table_after : goal.returns-clause-table_after
unfolding registers bytes_of
returns-clause-table_after c =
    let l = c.if-table-ne-TABLE_BYTES.false in
    let ram = set (set (set (set (set c.args.table.now 64 0) 65 0) 68 2) 69 0) 70 0 in
    let zeros = filled ram _ 104 4 (c.fill.ensures.after (λ y e. e)) (simp length-set (omega arith)) in
    reboot_stores c.args.table.now l _ _ (ap (put_mid 104 4 ram) zeros) c.place.ensures
