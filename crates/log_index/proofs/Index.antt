-- The index of segments: how many numbers it has, and how large they are.
use Rattle.std.specs.Prelude.{None, Option, Some}
use mathlib.Core.Path.{◌≡◌, refl, ap}
use mathlib.Core.List.{List, [], ◌∷◌}
use Prim.Native.Nat.{ℕ, zero, suc, ◌+◌, ◌≤◌}
use native.Mathlib.Omega.{arith}
use lib.ListN.{length}
use Rattle.log_index.specs.Last.{Last, at, nowhere, or_in, last_in, last_from, index_number, index_from}

-- no index number is above the count of segments
pub number_most : (id k : ℕ) (ss : List (List ℕ)) → index_number (last_from id k ss) ≤ k + length ss
unfolding last_from
number_most id k [] = omega arith
number_most id k (s ∷ ss) = by_case (last_from id (suc k) ss) (last_in id s) (number_most id (suc k) ss)
  where
    by_case : (l : Last) (f : Option ℕ) → index_number l ≤ suc k + length ss → index_number (or_in l k f) ≤ k + suc (length ss)
    by_case (at j p) (Some q) h = omega arith
    by_case (at j p) None h = omega arith
    by_case nowhere (Some p) h = omega arith
    by_case nowhere None h = omega arith

pub index_length : (n i : ℕ) (ss : List (List ℕ)) → length (index_from n i ss) ≡ n
unfolding index_from
index_length zero i ss = refl
index_length (suc n) i ss = ap suc (index_length n (suc i) ss)
