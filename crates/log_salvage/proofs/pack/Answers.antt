use mathlib.Core.Path.{◌≡◌, refl, sym, ap, ◌∙◌}
use mathlib.Core.List.{List}
use Prim.Native.Nat.{ℕ, ◌+◌, ◌-◌}
use native.Mathlib.Omega.{arith}
use lib.ListN.{length, take}
use Rattle.lists.specs.Write.{placed}
use Rattle.reading.specs.Reading.{reading}
use Rattle.packet.specs.Verdict.{protocol2}
use Rattle.buffers.proofs.Parts.{placed_whole}
use Rattle.log_index.specs.Marks.{marked}
use Rattle.log_parts.proofs.Numbers.{put_fits}
use Rattle.log_salvage.proofs.Packing.{packing_start, packing_room, whole, packing_kept, packing_dropped, packing_marks, packing_done}
use borrow.Author.Rules.{rules}
use Rattle.log_salvage.proofs.pack.Goals as goal
use Rattle.log_salvage.proofs.pack.Goals.{in-Ok, in_default}

pub loop-number-init : goal.loop-number-init
loop-number-init c = (refl, rw c.segments_offset-limit.ensures (packing_start _ _ _ _ (search rules) (search rules)))

pub overflow_add-at-in-Ok : goal.overflow_add-at-in-Ok
overflow_add-at-in-Ok c =
    let l = c.loop-number in
    let a = c.args in
    let j = sym c.in-Ok.ensures in
    let r = (packing_room _ a.count a.kept a.out.now _ _ _ _ _ l.number l.invariant.1 (search rules) _ j).1 in search rules

pub loop-number-preserved : goal.loop-number-preserved
loop-number-preserved c =
    elim c.match-judge.branch [
      | in-Ok w ↦
          let l = c.loop-number in
          let a = c.args in
          let j = sym w.in-Ok.ensures in
          let p = w.place in
          let b₁ = w.put_entry.new.out in
          let s = w.bytes_in-segment.ensures in
          let r = packing_room _ a.count a.kept a.out.now _ _ _ _ _ l.number l.invariant.1 (search rules) _ j in
          let z = whole _ a.count a.kept a.out.now _ _ _ _ _ l.number l.invariant.1 (search rules) _ j in
          let n : length b₁ ≡ length l.out = search rules in
          let e₁ = w.put_entry.ensures ∙ put_fits _ _ _ _ (omega (arith, r.0, l.invariant.0)) in
          let e₂ =
          p.ensures ∙ ap (λ (x : List ℕ). placed b₁ l.at (take (length b₁ - l.at) x)) s
          ∙ placed_whole b₁ _ l.at (omega (arith, r.1, z, n, l.invariant.0)) in
          let k =
          packing_kept _ a.count a.kept a.out.now _ _ _ _ _ l.number l.invariant.1 (search rules) _ j _ _ _ e₁ e₂
          (w.mark.ensures ∙ ap (λ (x : List ℕ). marked (l.done + 1) l.index (reading protocol2 x)) s) in
          rw (w.out-is, w.index-is, w.limit-is, w.at-is, w.done-is, w.end-limit.ensures) (k.size, k)
      | in_default w ↦
          let l = c.loop-number in
          let k = packing_dropped _ _ _ _ _ _ _ _ _ l.number l.invariant.1 (search rules) _ (sym c.judge.ensures ∙ w.in_default.is) in
          rw (w.out-is, w.index-is, w.limit-is, w.at-is, w.done-is) (k.size, k)
    ]

pub returns : goal.returns
returns c =
    let l = c.loop-number in
    record {
      value = packing_marks _ _ _ _ _ _ _ _ _ l.number l.invariant.1 (search rules);
      out_after = packing_done _ _ _ _ _ _ _ _ _ l.number l.invariant.1 (search rules);
    }
