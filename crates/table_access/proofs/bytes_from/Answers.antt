use mathlib.Core.Path.{◌≡◌, ap, ◌∙◌}
use mathlib.Core.List.{List}
use Prim.Native.Nat.{ℕ, ◌+◌, ◌-◌}
use native.Mathlib.Omega.{arith}
use lib.ListN.{take, drop, length-take}
use lib.Seq.{take_all}
use Rattle.lists.specs.Write.{padded}
use Rattle.table_access.proofs.bytes_from.Goals as goal

pub returns : goal.returns
returns c =
    let a = c.args in
    let e : a.at + a.n - a.at ≡ a.n = omega arith in
    c.first_eight.ensures
    ∙ ap (λ (k : ℕ). padded 8 (take 8 (take k (drop a.at a.table.now)))) e
    ∙ ap (λ (s : List ℕ). padded 8 s) (take_all 8 (take a.n (drop a.at a.table.now)) (simp length-take (omega arith)))
