use mathlib.Core.Path.{refl, sym}
use native.Mathlib.Omega.{arith}
use lib.ListN.{length-set}
use Rattle.lists.proofs.Filling.{fill_length}
use Rattle.log_kept.proofs.Rounds.{counts_of, listing_start, listing_bytes, listing_kept, listing_room, listing_dropped, listing_count, listing_counts, listing_done}
use borrow.Author.Rules.{rules}
use Rattle.log_kept.proofs.list_dropped.Goals as goal
use Rattle.log_kept.proofs.list_dropped.Goals.{in-Ok, in-Err}

pub loop-number-init : goal.loop-number-init
loop-number-init c = (refl, rw c.segments_offset-limit.ensures (listing_start _ _ _))

pub overflow_add-bytes : goal.overflow_add-bytes
overflow_add-bytes c =
    let l = c.loop-number in
    let a = c.args in
    let j = sym c.in-Ok.ensures in
    let h = listing_bytes _ _ _ _ _ _ _ l.number l.invariant.1 (search rules) _ j in search rules

pub bounds-report-dropped : goal.bounds-report-dropped
bounds-report-dropped c =
    let l = c.loop-number in
    let a = c.args in
    let j = sym c.in-Err.ensures in
    let h = listing_room _ _ _ _ _ _ _ l.number l.invariant.1 (search rules) (search rules) _ j in omega (arith, h, l.invariant.0)

pub bounds-report-dropped-in-Err : goal.bounds-report-dropped-in-Err
bounds-report-dropped-in-Err c =
    let l = c.loop-number in
    let a = c.args in
    let j = sym c.in-Err.ensures in
    let h = listing_room _ _ _ _ _ _ _ l.number l.invariant.1 (search rules) (search rules) _ j in simp length-set (omega (arith, h, l.invariant.0))

pub loop-number-preserved : goal.loop-number-preserved
loop-number-preserved c =
    elim c.match-judge.branch [
      | in-Ok w ↦
          let l = c.loop-number in
          let j = sym w.in-Ok.ensures in
          let k = listing_kept _ _ _ _ _ _ _ l.number l.invariant.1 (search rules) _ j in
          rw (w.report-is, w.limit-is, w.bytes-is, w.dropped-is, w.end-limit.ensures) (l.invariant.0, k)
      | in-Err w ↦
          let l = c.loop-number in
          let j = sym w.in-Err.ensures in
          let k = listing_dropped _ _ _ _ _ _ _ l.number l.invariant.1 (search rules) (search rules) _ j in
          rw (w.report-is, w.from.ensures, w.limit-is, w.bytes-is, w.dropped-is) (fill_length _ _ _ _ _ k.listed, k)
    ]

pub overflow_sub-result : goal.overflow_sub-result
overflow_sub-result c =
    let l = c.loop-number in
    let a = c.args in
    omega (arith, listing_count _ _ _ _ _ _ _ l.number l.invariant.1 (search rules), counts_of a.file.now a.count)

pub returns : goal.returns
returns c =
    let l = c.loop-number in
    record {
      value = listing_counts _ _ _ _ _ _ _ l.number l.invariant.1 (search rules);
      report_after = listing_done _ _ _ _ _ _ _ l.number l.invariant.1 (search rules);
    }
