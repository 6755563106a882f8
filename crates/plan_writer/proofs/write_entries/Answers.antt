use mathlib.Core.Path.{◌≡◌, sym, ap, ◌∙◌}
use Prim.Native.Nat.{◌*◌, ◌-◌}
use native.Mathlib.Omega.{arith}
use lib.IntN.{ℤ, pos}
use lib.ListN.{length, get_or, length-drop}
use mir.Syntax.{w32}
use mir.Val.{to_z, of_z}
use borrow.Author.Rules.{rules}
use borrow.Rule.Slice.PartMut.{mid_of}
use Rattle.lists.specs.Write.{overwritten}
use Rattle.lists.proofs.Write.{tail_placed}
use Rattle.table_items.specs.Items.{unsigned}
use Rattle.plan.specs.Planner.{entry_bytes}
use Rattle.plan_writer.specs.Filling.{entries_at}
use Rattle.plan_writer.proofs.Writing.{filling_start, filling_skip, filling_length, filling_next, at_end}
use Rattle.plan_writer.proofs.write_entries.Goals as goal
use Rattle.plan_writer.proofs.write_entries.Goals.{then-goals-id-ge0, else-goals-id-ge0}

pub loop-id-init : goal.loop-id-init
loop-id-init c = let a = c.args in filling_start a.goals.now a.from a.k a.out.now

pub loop-id-preserved : goal.loop-id-preserved
loop-id-preserved c =
    let a = c.args in
    let h = c.loop-id in
    let some = h.invariant.some in
    let g = get_or a.goals.now h.id (pos 0) in
    let more = filling_length a.goals.now a.from a.k a.out.now h.out h.id h.i h.invariant c.requires.1 c.requires.2 in
    let element : to_z w32 (of_z w32 g) ≡ g = search rules in
    elim c.if-goals-id-ge0.branch [
      | then-goals-id-ge0 w ↦
          rw w.i-is
          (filling_next a.goals.now a.from a.k a.out.now h.out h.id h.i h.invariant c.if-goals-id-ge0.out c.requires.1 (omega (arith, c.if-i-k.false)) c.loop-id-test.true
          (simp element at w.if-goals-id-ge0.true)
          (w.out-is ∙ tail_placed (5 * h.i) h.out _ (entry_bytes (h.id, unsigned g)) (omega (arith, c.if-i-k.false, c.requires.2))
          (w.write_entry.ensures ∙ ap (λ (v : ℤ). overwritten (mid_of (5 * h.i) (length h.out - 5 * h.i) h.out) (entry_bytes (h.id, unsigned v))) element)))
      | else-goals-id-ge0 w ↦
          rw (w.out-is, w.i-is)
          (filling_skip a.goals.now a.from a.k a.out.now h.out h.id h.i h.invariant c.loop-id-test.true (simp element at w.if-goals-id-ge0.false))
    ]

pub returns : goal.returns
returns c =
    let goals = c.args.goals.now in
    let f = c.loop-id.invariant in
    let some = f.some in
    let past : c.loop-id.i ≡ c.args.k =
    omega (arith, c.requires.1, ap length (sym f.left ∙ at_end goals c.loop-id.id c.loop-id-test.false), length-drop c.loop-id.i (entries_at goals c.args.from)) in
    record {
      result_value = at_end goals (length goals) (omega arith) ∙ sym (at_end goals c.loop-id.id c.loop-id-test.false) ∙ f.left ∙ rw past;
      out_after = f.holds ∙ rw past;
    }
