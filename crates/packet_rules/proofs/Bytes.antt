-- The test of one byte, if it is there: what a beginning says of the whole, and the whole of its beginning.
use mathlib.Core.Path.{◌≡◌, refl, sym, ◌∙◌}
use mathlib.Core.Bool.{Bool, true, false, ◌||◌}
use mathlib.Core.List.{List, ◌++◌}
use Prim.Native.Nat.{ℕ, ◌<◌}
use native.Mathlib.Omega.{arith}
use lib.Dec.{leb}
use lib.ListN.{length, get_or, length-append, get_or-append}
use borrow.Author.Tests.{leb-false, lt-leb}
use Rattle.lists.proofs.Bools.{or_right}
use Rattle.packet_rules.specs.Shape.{so_far}

module _ (test : ℕ → Bool) (i : ℕ) (a : List ℕ) where
  pub passes : so_far a i test ≡ true → i < length a → test (get_or a i 0) ≡ true
  passes e h = or_right (leb (length a) i) (test (get_or a i 0)) e (lt-leb (length a) i h)

  pub passed : test (get_or a i 0) ≡ true → so_far a i test ≡ true
  passed e = go (leb (length a) i)
    where
      go : (x : Bool) → (x || test (get_or a i 0)) ≡ true
      go true = refl
      go false = e

  module _ (b : List ℕ) where
    pub same_test : i < length a → so_far (a ++ b) i test ≡ so_far a i test
    same_test h =
        rw (lt-leb (length (a ++ b)) i (simp length-append (omega arith)), lt-leb (length a) i h, get_or-append a b 0 i h)

    pub passes_before : so_far (a ++ b) i test ≡ true → so_far a i test ≡ true
    passes_before e = go (leb (length a) i) refl
      where
        go : (x : Bool) → leb (length a) i ≡ x → so_far a i test ≡ true
        go true l = rw l
        go false l = sym (same_test (leb-false (length a) i l)) ∙ e
