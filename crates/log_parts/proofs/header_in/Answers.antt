use mathlib.Core.Path.{ap, ◌∙◌}
use mathlib.Core.List.{List}
use Prim.Native.Nat.{ℕ, ◌+◌, ◌*◌}
use Rattle.lists.specs.Numbers.{bytes_of}
use Rattle.lists.specs.Write.{placed}
use Rattle.log_parts.proofs.Numbers.{header_put}
use borrow.Author.Rules.{rules}
use Rattle.log_parts.proofs.header_in.Goals as goal

pub returns : goal.returns
returns c =
    let a = c.args in
    c.put_number-4.ensures
    ∙ ap (λ (b : List ℕ). placed b 12 (bytes_of 4 (16 + 8 * a.segments))) (c.put_number-3.ensures
    ∙ ap (λ (b : List ℕ). placed b 8 (bytes_of 4 254)) (c.put_number-2.ensures
    ∙ ap (λ (b : List ℕ). placed b 4 (bytes_of 4 16)) c.put_number.ensures))
    ∙ header_put a.out.now a.segments (search rules)
