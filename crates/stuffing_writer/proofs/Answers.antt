-- What a caller learns from each case of an answer.
use mathlib.Core.Path.{◌≡◌, refl}
use mathlib.Core.Bool.{Bool, true, false, cond}
use Prim.Native.Nat.{ℕ, ◌≤◌, ◌<◌}
use native.Mathlib.Omega.{arith}
use lib.Dec.{leb}
use borrow.Author.Tests.{leb-true, leb-false}
use Rattle.stuffing_writer.specs.Answers.{length_within}
use Rattle.std.specs.Prelude.{None, Some}

pub is_within : (most n m : ℕ) → length_within most n ≡ Some m → (n ≤ most) × (n ≡ m)
is_within most n m e = go (leb n most) refl e
  where
    go : (w : Bool) → leb n most ≡ w → cond w (Some n) None ≡ Some m → (n ≤ most) × (n ≡ m)
    go true l e = (leb-true n most l, cc)
    go false l e = let z : ◌≡◌ {A = ℕ} 0 1 = cc in absurd (omega arith)

pub is_past : (most n : ℕ) → length_within most n ≡ None → most < n
is_past most n e = go (leb n most) refl e
  where
    go : (w : Bool) → leb n most ≡ w → cond w (Some n) None ≡ None → most < n
    go false l e = leb-false n most l
    go true l e = let z : ◌≡◌ {A = ℕ} 0 1 = cc in absurd (omega arith)
