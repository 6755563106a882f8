-- FF FF FD as a test, and what a byte that is not FF forgets.
use mathlib.Core.Path.{◌≡◌, refl, sym, ap, ◌∙◌}
use mathlib.Core.Bool.{Bool, true, false, cond, ◌&&◌, and-false}
use mathlib.Core.List.{List, [], ◌∷◌}
use Prim.Native.Nat.{ℕ}
use lib.Dec.{eqb}
use borrow.Author.Tests.{eqb-true}
use Rattle.lists.proofs.Bools.{and_right}
use Rattle.stuffing.specs.Stuffing.{mark, stuff_after}

-- the last byte of a mark is FD
pub mark_last : (a b c : ℕ) → mark a b c ≡ true → c ≡ 0xFD
mark_last a b c e =
    eqb-true c 0xFD (and_right (eqb b 0xFF) (eqb c 0xFD) (and_right (eqb a 0xFF) (eqb b 0xFF && eqb c 0xFD) e))

-- no mark goes on from a byte that is not FF
pub no_mark : (a b c : ℕ) → eqb b 0xFF ≡ false → mark a b c ≡ false
no_mark a b c e = simp (e, and-false)

-- so what stands before such a byte does not matter
pub stuff_forgets : (a a' b : ℕ) (s : List ℕ) → eqb b 0xFF ≡ false → stuff_after a b s ≡ stuff_after a' b s
unfolding stuff_after
stuff_forgets a a' b [] e = refl
stuff_forgets a a' b (c ∷ s) e =
    ap (λ (t : Bool). c ∷ cond t (0xFD ∷ stuff_after b c s) (stuff_after b c s)) (no_mark a b c e ∙ sym (no_mark a' b c e))
