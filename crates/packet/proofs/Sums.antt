-- The checksum's test, by the parts of a packet.
use mathlib.Core.Path.{◌≡◌, ap, ap₂, ◌∙◌}
use mathlib.Core.List.{List, [], ◌∷◌, ◌++◌}
use Prim.Native.Nat.{ℕ, ◌+◌, ◌-◌}
use native.Mathlib.Omega.{arith}
use lib.Dec.{eqb}
use lib.ListN.{length, get_or, length-append}
use lib.Seq.{take_at, get_or_at, get_or-append-add}
use Rattle.crc.specs.Crc.{crc_from}
use Rattle.packet_front.specs.Front.{word}
use Rattle.packet.specs.Packet.{checksum_right}

-- where its two bytes follow the bytes s that it covers
pub sum_test : (s : List ℕ) (a b : ℕ) → checksum_right (s ++ a ∷ b ∷ []) ≡ eqb (crc_from 0 s) (word a b)
unfolding checksum_right
sum_test s a b =
    let w = s ++ a ∷ b ∷ [] in
    let n : length w ≡ length s + 2 = length-append s (a ∷ b ∷ []) in
    let e : length w - 1 ≡ length s + 1 = omega arith in
    ap₂ eqb (ap (crc_from 0) (take_at s (a ∷ b ∷ []) (length w - 2) (omega arith)))
    (ap₂ word (get_or_at s a (b ∷ []) 0 (length w - 2) (omega arith))
    (ap (λ (i : ℕ). get_or w i 0) e ∙ get_or-append-add s (a ∷ b ∷ []) 1 0))
