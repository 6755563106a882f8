-- The test whether two numbers are the same, and the machine's test of their words.
use mathlib.Core.Path.{◌≡◌, refl, sym, ap, ◌∙◌}
use mathlib.Core.Bool.{Bool, true, false, false≢true}
use Prim.Native.Nat.{ℕ}
use native.Mathlib.Omega.{arith}
use lib.Dec.{eqb, leb}
use lib.IntN.{ℤ, pos, negsuc}
use lib.Signed.{le_z}
use mir.Syntax.{w32}
use mir.Val.{to_z, of_z, SFits}
use mir.Facts.{to_z-of_z}
use borrow.Author.Tests.{leb-true, eq-eqb, eqb-true}
use Rattle.lists.proofs.Bools.{and_left, and_right}
use Rattle.table_items.specs.Items.{same}
use Rattle.table_items.proofs.Signed.{le_refl}

equalℕ : (a b : ℕ) → leb a b ≡ true → leb b a ≡ true → a ≡ b
equalℕ a b h k =
    let x = leb-true a b h in
    let y = leb-true b a k in
    omega arith

equal : (a b : ℤ) → le_z a b ≡ true → le_z b a ≡ true → a ≡ b
equal (pos a) (pos b) h k = ap pos (equalℕ a b h k)
equal (pos a) (negsuc b) h k = absurd (false≢true h)
equal (negsuc a) (pos b) h k = absurd (false≢true k)
equal (negsuc a) (negsuc b) h k = ap negsuc (equalℕ a b k h)

pub same_equal : (a b : ℤ) → same a b ≡ true → a ≡ b
same_equal a b e = equal a b (and_left (le_z a b) (le_z b a) e) (and_right (le_z a b) (le_z b a) e)

pub same_refl : (a : ℤ) → same a a ≡ true
same_refl a = rw (le_refl a)

-- words are equal where the numbers are that they stand for
pub same_words : (a b : ℤ) → SFits w32 a → SFits w32 b → eqb (of_z w32 a) (of_z w32 b) ≡ same a b
same_words a b f g = by_words (eqb (of_z w32 a) (of_z w32 b)) (same a b) refl refl
  where
    by_words : (x y : Bool) → eqb (of_z w32 a) (of_z w32 b) ≡ x → same a b ≡ y → x ≡ y
    by_words true true h k = refl
    by_words false false h k = refl
    by_words true false h k =
        let e = sym (to_z-of_z f) ∙ ap (to_z w32) (eqb-true (of_z w32 a) (of_z w32 b) h) ∙ to_z-of_z g in
        sym (same_refl b) ∙ ap (λ (z : ℤ). same z b) (sym e) ∙ k
    by_words false true h k = sym h ∙ eq-eqb (of_z w32 a) (of_z w32 b) (ap (of_z w32) (same_equal a b k))
