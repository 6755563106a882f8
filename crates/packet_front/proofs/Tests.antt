-- The length field, test by test.
use mathlib.Core.Path.{◌≡◌}
use mathlib.Core.Bool.{true, false, ◌&&◌}
use mathlib.Core.List.{List}
use Prim.Native.Nat.{ℕ, ◌≤◌, ◌<◌}
use lib.ListN.{length}
use borrow.Author.Tests.{le-ltb, le-leb, lt-leb}
use Rattle.packet_front.specs.Front.{length_of}
use Rattle.packet_front.specs.Header.{front_agrees, length_agrees}

module _ (s : List ℕ) where
  -- the tests on the length field, by the bytes that are there
  pub length_short : 7 ≤ length s → length_of s < 3 → length_agrees s ≡ false
  unfolding length_agrees
  length_short h k = rw (le-ltb (length s) 7 h, lt-leb 3 (length_of s) k)

  pub length_long : 7 ≤ length s → 3 ≤ length_of s → 1024 < length_of s → length_agrees s ≡ false
  unfolding length_agrees
  length_long h k l = rw (le-ltb (length s) 7 h, le-leb 3 (length_of s) k, lt-leb (length_of s) 1024 l)

  pub length_good : 7 ≤ length s → 3 ≤ length_of s → length_of s ≤ 1024 → length_agrees s ≡ true
  unfolding length_agrees
  length_good h k l = rw (le-ltb (length s) 7 h, le-leb 3 (length_of s) k, le-leb (length_of s) 1024 l)

  pub both : front_agrees s ≡ true → length_agrees s ≡ true → (front_agrees s && length_agrees s) ≡ true
  both f l = rw (f, l)
