use mathlib.Core.Path.{◌≡◌, ap, ◌∙◌}
use Prim.Native.Nat.{◌≤◌}
use native.Mathlib.Omega.{arith}
use lib.ListN.{length}
use Rattle.log_index.specs.Last.{index_size}
use Rattle.log_index.proofs.Index.{index_length}
use Rattle.log_salvage.proofs.Rounds.{index_differs}
use Rattle.log_kept.specs.Kept.{entry_count}
use Rattle.log_kept.specs.Sorting.{counts}
use Rattle.log_salvage.proofs.Answer.{counted_size, counted_left, counted_kept, figures_are}
use borrow.Author.Rules.{rules}
use Rattle.log_salvage.proofs.write_log.Goals as goal

pub put_log-index-requires : goal.put_log-index-requires
put_log-index-requires c =
    let a = c.args in
    let e : a.sorted ≡ counts a.file.now (entry_count a.file.now) = search rules in
    let k = counted_kept a.file.now a.sorted e (search rules) _ c.entry_count-count.ensures in
    let o : length a.file.now ≤ length a.out.now = search rules in
    (k.0, omega (arith, k.1, o))

pub overflow_mul-result : goal.overflow_mul-result
overflow_mul-result c =
    let a = c.args in
    let e : a.sorted ≡ counts a.file.now (entry_count a.file.now) = search rules in
    let k = counted_size a.file.now a.sorted e (search rules) in search rules

pub overflow_add-result : goal.overflow_add-result
overflow_add-result c =
    let a = c.args in
    let e : a.sorted ≡ counts a.file.now (entry_count a.file.now) = search rules in
    let k = counted_size a.file.now a.sorted e (search rules) in search rules

pub overflow_add-result-2 : goal.overflow_add-result-2
overflow_add-result-2 c =
    let a = c.args in
    let e : a.sorted ≡ counts a.file.now (entry_count a.file.now) = search rules in
    let k = counted_size a.file.now a.sorted e (search rules) in search rules

pub overflow_sub-result-2 : goal.overflow_sub-result-2
overflow_sub-result-2 c =
    let a = c.args in
    let e : a.sorted ≡ counts a.file.now (entry_count a.file.now) = search rules in
    rw c.segments_offset.ensures (counted_left a.file.now a.sorted e (search rules) _ c.entry_count-count.ensures)

pub returns : goal.returns
returns c =
    let a = c.args in
    let l = c.put_log-index in
    let e : a.sorted ≡ counts a.file.now (entry_count a.file.now) = search rules in
    let marks = ap length l.ensures.value ∙ index_length index_size 0 _ in
    let changed = c.index_changed.ensures ∙ index_differs _ l.result _ marks in
    let both = figures_are a.file.now a.out.now _ a.sorted _ _ _ _ e c.entry_count-count.ensures l.ensures.value changed l.ensures.out_after c.header_changed.ensures in
    record { value = rw c.segments_offset.ensures both.0; out_after = both.1 }
