use mathlib.Core.Path.{sym}
use Prim.Native.Nat.{◌+◌, ◌≤◌}
use native.Mathlib.Omega.{arith}
use lib.ListN.{length, get_or}
use Rattle.device_parameters.specs.Parameters.{word_at}
use Rattle.device_parameters.proofs.Searching.{sync_whole}
use Rattle.device_sync.proofs.heard_sync_write.Goals as goal
use Rattle.device_sync.proofs.heard_sync_write.Goals.{In-Some}

-- the own entry is whole
whole : (t : In-Some)
    → let a = t.args in
    t.in-Some.own.offset + (1 + word_at a.params.now 2) ≤ length a.params.now
whole t =
    let a = t.args in
    sync_whole (1 + word_at a.params.now 2) (get_or a.table.now 7 0) a.params.now t.in-Some.own.slot t.in-Some.own.offset
    (rw t.word_at-n.ensures at (sym t.in-Some.ensures))

pub overflow_add-from : goal.overflow_add-from
overflow_add-from c = omega (arith, whole (goal.at.overflow_add-from c).In-Some)

pub overflow_add-to : goal.overflow_add-to
overflow_add-to c = omega (arith, whole (goal.at.overflow_add-to c).In-Some, c.word_at-n.ensures, c.from.ensures)

pub slice_bounds-sync_write_by-end : goal.slice_bounds-sync_write_by-end
slice_bounds-sync_write_by-end c = omega (arith, whole (goal.at.slice_bounds-sync_write_by-end c).In-Some, c.word_at-n.ensures, c.from.ensures)
