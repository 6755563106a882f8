use mathlib.Core.Path.{sym, ap, subst, ◌∙◌}
use Prim.Native.Nat.{ℕ, ◌^◌, ◌<◌}
use native.Mathlib.Omega.{arith}
use lib.Bits.{bit_xor}
use Rattle.crc16_fold.proofs.Parts.{register_from, register_lt}
use Rattle.crc16_fold.proofs.register_of.Goals as goal

pub returns : goal.returns
returns c =
    let a = c.args in
    let d = c.reduced-rest.result in
    let small : d < 2 ^ 15 = c.reduced-rest.ensures.0 in
    ap (bit_xor d) c.odd_part.ensures
    ∙ register_from d a.u a.p (omega arith) (c.reduced-rest.ensures.1 ∙ c.folded.ensures.1)

pub overflow_cast-result : goal.overflow_cast-result
overflow_cast-result c = record { fits = subst (λ (x : ℕ). x < 2 ^ 16) (sym (returns c)) (register_lt _ _) }
