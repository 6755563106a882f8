use mathlib.Core.Path.{sym, ap, ap₂, ◌∙◌}
use mathlib.Core.List.{List}
use Prim.Native.Nat.{ℕ, ◌+◌}
use native.Mathlib.Omega.{arith}
use lib.ListN.{drop}
use borrow.Author.Rules.{rules}
use Rattle.reading.specs.Reading.{reading}
use Rattle.packet.specs.Verdict.{protocol2}
use Rattle.log_index.specs.Marks.{marked}
use Rattle.log_index.proofs.Marks.{marked_all, all_marked}
use Rattle.log_writer.specs.Writing.{cut}
use Rattle.log_writer.proofs.Rounds.{sum_turn, marked_turn, marked_end}
use Rattle.log_writer.proofs.index_of.Goals as goal

pub split_at-requires : goal.split_at-requires
split_at-requires c = let t = sum_turn c.args.lengths.now c.loop-i.i (search rules) in omega (arith, c.loop-i.invariant.0)

pub loop-i-preserved : goal.loop-i-preserved
loop-i-preserved c =
    let l = c.loop-i in
    let ns = c.args.lengths.now in
    let t = sum_turn ns l.i (search rules) in
    let s = c.split_at.ensures in (
      omega (arith, s.back_len, l.invariant.0),
      l.invariant.1 ∙ marked_turn ns l.i l.rest.now _ (search rules)
          ∙ ap₂ (λ (xs bytes : List ℕ). marked_all (l.i + 1) xs (cut (drop (l.i + 1) ns) bytes))
          (sym (c.mark.ensures ∙ ap (λ (x : List ℕ). marked (l.i + 1) l.index (reading protocol2 x)) s.front)) (sym s.back),
    )

pub returns : goal.returns
returns c =
    let l = c.loop-i in
    let a = c.args in
    sym (sym (all_marked (cut a.lengths.now a.bytes.now)) ∙ l.invariant.1 ∙ marked_end a.lengths.now l.i l.rest.now _ (search rules))
