-- The machine's reading of a small word, the order of signed numbers, and the value of an item.
use mathlib.Core.Path.{◌≡◌, refl, ap}
use mathlib.Core.Bool.{Bool, true, false, ◌||◌, false≢true}
use Prim.Native.Nat.{ℕ, ◌<◌, ◌^◌}
use native.Mathlib.Omega.{arith}
use lib.Dec.{leb, eqb}
use lib.IntN.{ℤ, pos, negsuc}
use lib.Signed.{le_z}
use mir.Syntax.{w32}
use mir.Val.{to_z}
use borrow.Author.Tests.{lt-ltb, le-leb, leb-true, eqb-true, ne_eqb}
use mathlib.Core.List.{List}
use lib.ListN.{get_or}
use Rattle.table_registers.specs.Rows.{one_or_four}
use Rattle.std.specs.Int.{cast_unsigned}
use Rattle.lists.specs.Numbers.{number_at}
use Rattle.table_items.specs.Items.{signed, unsigned, value_at}

pub small : (u : ℕ) → u < 2 ^ 31 → to_z w32 u ≡ pos u
small u h = simp (lt-ltb u (2 ^ 31) h)

-- the order, as its test says it
pub le_refl : (a : ℤ) → le_z a a ≡ true
le_refl (pos a) = le-leb a a (omega arith)
le_refl (negsuc a) = le-leb a a (omega arith)

transℕ : (a b c : ℕ) → leb a b ≡ true → leb b c ≡ true → leb a c ≡ true
transℕ a b c h k =
    let x = leb-true a b h in
    let y = leb-true b c k in
    le-leb a c (omega arith)

pub le_trans : (a b c : ℤ) → le_z a b ≡ true → le_z b c ≡ true → le_z a c ≡ true
le_trans (pos a) (pos b) (pos c) h k = transℕ a b c h k
le_trans (pos a) (pos b) (negsuc c) h k = k
le_trans (pos a) (negsuc b) (pos c) h k = absurd (false≢true h)
le_trans (pos a) (negsuc b) (negsuc c) h k = h
le_trans (negsuc a) (pos b) (pos c) h k = refl
le_trans (negsuc a) (pos b) (negsuc c) h k = absurd (false≢true k)
le_trans (negsuc a) (negsuc b) (pos c) h k = refl
le_trans (negsuc a) (negsuc b) (negsuc c) h k = transℕ c b a k h

-- the value of an item of four bytes, and of one
pub value_word : (table : List ℕ) (a n : ℕ) → n ≡ 4 → value_at table a n ≡ signed (number_at table a 4)
unfolding value_at
value_word table a n e = rw e

pub value_byte : (table : List ℕ) (a n : ℕ) → n ≡ 1 → value_at table a n ≡ pos (get_or table a 0)
unfolding value_at number_at
value_byte table a n e = rw e (ap pos (omega arith))

pub one_byte : (n : ℕ) → one_or_four n ≡ true → (n ≡ 4 → ⊥) → n ≡ 1
one_byte n e f = eqb-true n 1 (one (eqb n 1) (rw (ne_eqb n 4 f) at e))
  where
    one : (b : Bool) → (b || false) ≡ true → b ≡ true
    one true e = refl
    one false e = e

-- the 32 bits of a number
pub bits_of : (z : ℤ) → cast_unsigned w32 z ≡ unsigned z
bits_of (pos n) = refl
bits_of (negsuc n) = omega arith
