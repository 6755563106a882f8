use mathlib.Core.Path.{sym}
use Prim.Native.Nat.{◌+◌, ◌≤◌}
use native.Mathlib.Omega.{arith}
use lib.ListN.{length, get_or}
use Rattle.device_parameters.specs.Parameters.{word_at}
use Rattle.device_parameters.proofs.Bulk.{bulk_write_whole}
use Rattle.device_bulk.proofs.heard_bulk_write.Goals as goal
use Rattle.device_bulk.proofs.heard_bulk_write.Goals.{In-Some}

-- the own entry is whole
whole : (t : In-Some)
    → let own = t.in-Some.own in
    own.offset + (5 + word_at t.args.params.now (own.offset + 3)) ≤ length t.args.params.now
whole t =
    let a = t.args in
    bulk_write_whole (get_or a.table.now 7 0) a.params.now 0 t.in-Some.own.slot t.in-Some.own.offset (sym t.in-Some.ensures)

pub overflow_add-own : goal.overflow_add-own
overflow_add-own c = omega (arith, whole (goal.at.overflow_add-own c).In-Some)

pub overflow_add-own-2 : goal.overflow_add-own-2
overflow_add-own-2 c = omega (arith, whole (goal.at.overflow_add-own-2 c).In-Some)

pub overflow_add-from : goal.overflow_add-from
overflow_add-from c = omega (arith, whole (goal.at.overflow_add-from c).In-Some)

pub overflow_add-to : goal.overflow_add-to
overflow_add-to c = omega (arith, whole (goal.at.overflow_add-to c).In-Some, c.word_at-n.ensures, c.from.ensures)

pub slice_bounds-sync_write_by-end : goal.slice_bounds-sync_write_by-end
slice_bounds-sync_write_by-end c = omega (arith, whole (goal.at.slice_bounds-sync_write_by-end c).In-Some, c.word_at-n.ensures, c.from.ensures)
