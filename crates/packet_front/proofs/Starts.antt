-- Where header and ID agree a packet may begin.
use mathlib.Core.Path.{◌≡◌, refl}
use mathlib.Core.Bool.{Bool, true, false, ◌&&◌, ◌||◌}
use mathlib.Core.List.{List, ◌∷◌}
use Prim.Native.Nat.{ℕ}
use native.Mathlib.Omega.{arith}
use lib.Dec.{ltb, eqb}
use lib.ListN.{length}
use borrow.Author.Tests.{le-leb, lt-ltb, ltb-false}
use Rattle.packet_rules.proofs.Bytes.{passes}
use Rattle.packet_front.specs.Header.{front_agrees, headed, may_begin}
use Rattle.packet_front.proofs.Agreement.{Front, front_tests}

pub front_begins : (b : ℕ) (s : List ℕ) → front_agrees (b ∷ s) ≡ true → may_begin (b ∷ s) ≡ true
unfolding may_begin headed
front_begins b s e = go (ltb (length (b ∷ s)) 4) refl
  where
    w : List ℕ
    w = b ∷ s

    f : Front w
    f = front_tests w e

    go : (t : Bool) → ltb (length w) 4 ≡ t → (ltb 0 (length w) && (eqb 0xFF b && (ltb (length w) 4 || headed w))) ≡ true
    go true l = rw (lt-ltb 0 (length w) (omega arith), passes (eqb 0xFF) 0 w f.first (omega arith), l)
    go false l =
        let n = ltb-false (length w) 4 l in
        rw (
          lt-ltb 0 (length w) (omega arith),
          passes (eqb 0xFF) 0 w f.first (omega arith),
          l,
          le-leb 4 (length w) n,
          passes (eqb 0xFF) 1 w f.second (omega arith),
          passes (eqb 0xFD) 2 w f.third (omega arith),
          passes (eqb 0x00) 3 w f.fourth (omega arith),
        )
