use mathlib.Core.Path.{◌≡◌, sym, ap, ◌∙◌}
use mathlib.Core.List.{List}
use Prim.Native.Nat.{◌+◌}
use lib.ListN.{length}
use borrow.Author.Rules.{rules}
use Rattle.log_layout.specs.Log.{LogEntry}
use Rattle.log_layout.specs.Layout.{entry_of, chained}
use Rattle.log_layout.proofs.Rounds.{left_end, chained_apart, chained_next}
use Rattle.log_layout.proofs.segments_chained.Goals as goal

pub returns-then-next-end : goal.returns-then-next-end
returns-then-next-end c =
    let l = c.loop-number in
    sym (l.invariant ∙ chained_apart c.args.file.now c.args.count l.number (search rules) l.end _ (search rules))

pub loop-number-preserved : goal.loop-number-preserved
loop-number-preserved c =
    let l = c.loop-number in
    let f = c.args.file.now in
    let e : l.end + (entry_of f l.number).1 ≡ c.end-end.result = search rules in
    l.invariant ∙ chained_next f c.args.count l.number (search rules) l.end _ (search rules) ∙ rw e

pub returns : goal.returns
unfolding chained
returns c =
    let l = c.loop-number in
    sym (l.invariant ∙ ap (λ (es : List LogEntry). chained es l.end (length c.args.file.now)) (left_end c.args.file.now c.args.count l.number (search rules)))
