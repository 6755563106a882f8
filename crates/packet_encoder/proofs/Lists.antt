-- Laws on lists that only this crate needs.
use mathlib.Core.Path.{◌≡◌, refl, sym, ap}
use mathlib.Core.List.{List, [], ◌∷◌, ◌++◌}
use Prim.Native.Nat.{ℕ, zero, suc, ◌+◌, ◌-◌, ◌≤◌, ◌<◌}
use native.Mathlib.Omega.{arith}
use lib.ListN.{length, take, drop, set, get_or, length-append, length-take}
use lib.Seq.{take_all, drop-set-lt, paste}
use Rattle.std.proofs.Common.{append_assoc}
use Rattle.lists.specs.Write.{overwritten, placed}

-- the byte that was stored, and those behind it
pub set_here : (o : List ℕ) (i a : ℕ) → i < length o → drop i (set o i a) ≡ a ∷ drop (suc i) o
set_here [] i a h = absurd (omega arith)
set_here (x ∷ o) zero a h = refl
set_here (x ∷ o) (suc i) a h = set_here o i a (omega arith)

-- a byte that stands there first, and others copied after it
pub first_placed : (o : List ℕ) (a : ℕ) (s : List ℕ) → suc (length s) ≤ length o → get_or o 0 0 ≡ a
    → placed o 1 (take (length o - 1) s) ≡ overwritten o (a ∷ s)
first_placed [] a s h e = absurd (omega arith)
first_placed (x ∷ o) a s h e = rw (sym e, take_all (suc (length o) - 1) s (omega arith))

-- a byte that is written over
pub set_under : (o : List ℕ) (i a : ℕ) (s : List ℕ) → i < length s → overwritten (set o i a) s ≡ overwritten o s
set_under o i a s h = ap (λ (t : List ℕ). s ++ t) (drop-set-lt (length s) o i a h)

-- bytes copied behind the first i
pub pasted : (o s : List ℕ) (i n : ℕ) → n ≡ length s → i + n ≤ length o → paste o i s n ≡ overwritten o (take i o ++ s)
pasted o s i n e h =
    let k : length (take i o ++ s) ≡ i + n = simp (length-append, length-take) (omega arith) in
    rw (k, take_all n s (omega arith)) (simp append_assoc)

-- the first four bytes, the three after them and the rest
pub seven_apart : (w : List ℕ) → 7 ≤ length w
    → take 4 w ++ get_or w 4 0 ∷ get_or w 5 0 ∷ get_or w 6 0 ∷ drop 7 w ≡ w
seven_apart [] h = absurd (omega arith)
seven_apart (x0 ∷ []) h = absurd (omega arith)
seven_apart (x0 ∷ x1 ∷ []) h = absurd (omega arith)
seven_apart (x0 ∷ x1 ∷ x2 ∷ []) h = absurd (omega arith)
seven_apart (x0 ∷ x1 ∷ x2 ∷ x3 ∷ []) h = absurd (omega arith)
seven_apart (x0 ∷ x1 ∷ x2 ∷ x3 ∷ x4 ∷ []) h = absurd (omega arith)
seven_apart (x0 ∷ x1 ∷ x2 ∷ x3 ∷ x4 ∷ x5 ∷ []) h = absurd (omega arith)
seven_apart (x0 ∷ x1 ∷ x2 ∷ x3 ∷ x4 ∷ x5 ∷ x6 ∷ w) h = refl
