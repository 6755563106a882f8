-- The sum of bytes, part by part.
use Rattle.std.proofs.Common.{◌≡◌, ◌+◌, ℕ, List, [], ◌∷◌, ◌++◌, arith}
use Rattle.packet_v1.specs.Packet.{sum}

pub sum_append : (a b : List ℕ) → sum (a ++ b) ≡ sum a + sum b
unfolding sum
sum_append [] b = omega arith
sum_append (x ∷ a) b = omega (arith, sum_append a b)

pub sum_push : (a : List ℕ) (x : ℕ) → sum (a ++ x ∷ []) ≡ sum a + x
unfolding sum
sum_push a x = omega (arith, sum_append a (x ∷ []))

pub sum_none : sum [] ≡ 0
unfolding sum
sum_none = omega arith
