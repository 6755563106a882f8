use mathlib.Core.Path.{ap, ◌∙◌}
use mathlib.Core.List.{List}
use Prim.Native.Nat.{ℕ, ◌+◌, ◌*◌}
use Rattle.lists.specs.Numbers.{bytes_of}
use Rattle.lists.specs.Write.{placed}
use Rattle.log_parts.proofs.Numbers.{entry_put}
use borrow.Author.Rules.{rules}
use Rattle.log_parts.proofs.entry_in.Goals as goal

pub returns : goal.returns
returns c =
    let a = c.args in
    let at = 16 + 8 * a.number in
    c.put_number-2.ensures ∙ ap (λ (b : List ℕ). placed b (at + 4) (bytes_of 4 a.count)) c.put_number.ensures
    ∙ entry_put a.out.now at a.start a.count (search rules)
