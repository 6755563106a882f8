-- The length byte, test by test.
use mathlib.Core.Path.{◌≡◌}
use mathlib.Core.Bool.{true, false}
use mathlib.Core.List.{List}
use Prim.Native.Nat.{ℕ, ◌≤◌, ◌<◌}
use lib.ListN.{length}
use borrow.Author.Tests.{le-ltb, le-leb, lt-leb}
use Rattle.packet_v1.specs.Packet.{length_of}
use Rattle.packet_v1.specs.Verdict.{length_agrees}

module _ (s : List ℕ) where
  pub length_short : 4 ≤ length s → length_of s < 2 → length_agrees s ≡ false
  unfolding length_agrees
  length_short h k = rw (le-ltb (length s) 4 h, lt-leb 2 (length_of s) k)

  pub length_good : 4 ≤ length s → 2 ≤ length_of s → length_of s ≤ 255 → length_agrees s ≡ true
  unfolding length_agrees
  length_good h k l = rw (le-ltb (length s) 4 h, le-leb 2 (length_of s) k, le-leb (length_of s) 255 l)
