use mathlib.Core.Path.{sym}
use Prim.Native.Nat.{◌+◌, ◌≤◌}
use native.Mathlib.Omega.{arith}
use lib.ListN.{length, get_or}
use Rattle.device_parameters.proofs.Bulk.{bulk_read_whole}
use Rattle.device_bulk.proofs.heard_bulk_read.Goals as goal
use Rattle.device_bulk.proofs.heard_bulk_read.Goals.{In-Some}

-- the own entry is whole
whole : (t : In-Some)
    → let own = t.in-Some.own in
    own.offset + 5 ≤ length t.args.params.now
whole t =
    let a = t.args in
    bulk_read_whole (get_or a.table.now 7 0) a.params.now 0 t.in-Some.own.slot t.in-Some.own.offset (sym t.in-Some.ensures)

pub overflow_add-own : goal.overflow_add-own
overflow_add-own c = omega (arith, whole (goal.at.overflow_add-own c).In-Some)

pub overflow_add-own-2 : goal.overflow_add-own-2
overflow_add-own-2 c = omega (arith, whole (goal.at.overflow_add-own-2 c).In-Some)
