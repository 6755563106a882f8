use mathlib.Core.Path.{ap, ◌∙◌}
use mathlib.Core.List.{List}
use Prim.Native.Nat.{ℕ, ◌+◌}
use native.Mathlib.Numerals.{add-one}
use lib.ListN.{get_or, set}
use lib.Seq.{paste-suc}
use borrow.Author.Rules.{rules}
use Rattle.buffers.proofs.place.Goals as goal

pub loop-i-preserved : goal.loop-i-preserved
loop-i-preserved c =
    let a = c.args in
    let l = c.loop-i in (
      search rules,
      rw (add-one)
          (ap (λ (b : List ℕ). set b (a.at + l.i) (get_or a.src.now l.i 0)) l.invariant.1
          ∙ paste-suc a.buffer.now a.at a.src.now l.i 0 (search rules) (search rules)),
    )
