-- The first four bytes of a list.
use mathlib.Core.Path.{◌≡◌, sym, ap, ◌∙◌}
use mathlib.Core.List.{List, [], ◌∷◌}
use Prim.Native.Nat.{ℕ, ◌≤◌, ◌<◌}
use native.Mathlib.Omega.{arith}
use lib.ListN.{length, take, get_or}
use lib.Seq.{get_or-take}

-- the first four bytes, as a list and one by one
pub take_four : (w : List ℕ) (a b c d : ℕ) → 4 ≤ length w → get_or w 0 0 ≡ a → get_or w 1 0 ≡ b → get_or w 2 0 ≡ c → get_or w 3 0 ≡ d
    → take 4 w ≡ a ∷ b ∷ c ∷ d ∷ []
take_four [] a b c d h p q r s = absurd (omega arith)
take_four (x0 ∷ []) a b c d h p q r s = absurd (omega arith)
take_four (x0 ∷ x1 ∷ []) a b c d h p q r s = absurd (omega arith)
take_four (x0 ∷ x1 ∷ x2 ∷ []) a b c d h p q r s = absurd (omega arith)
take_four (x0 ∷ x1 ∷ x2 ∷ x3 ∷ w) a b c d h p q r s = cc

pub four_taken : (w : List ℕ) (i : ℕ) (four : List ℕ) → take 4 w ≡ four → i < 4 → get_or w i 0 ≡ get_or four i 0
four_taken w i four e h = sym (get_or-take 4 w i 0 h) ∙ ap (λ (l : List ℕ). get_or l i 0) e
