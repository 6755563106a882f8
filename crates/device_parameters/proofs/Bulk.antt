-- The own entry of a Bulk list is whole, said of its length where the parameters have it.
use mathlib.Core.Path.{◌≡◌}
use mathlib.Core.List.{List}
use Prim.Native.Nat.{ℕ, ◌+◌, ◌≤◌}
use native.Mathlib.Omega.{arith}
use lib.ListN.{length, drop}
use lib.Seq.{get_or-drop}
use Rattle.device_parameters.specs.Entries.{search, entry_at}
use Rattle.device_parameters.specs.Parameters.{word_at, bulk_read, bulk_write}
use Rattle.device_parameters.proofs.Searching.{found_whole}

word_drop : (at : ℕ) (params : List ℕ) (i : ℕ) → word_at (drop at params) i ≡ word_at params (at + i)
word_drop at params i =
    let e : at + (i + 1) ≡ at + i + 1 = omega arith in
    rw (get_or-drop at params i 0, get_or-drop at params (i + 1) 0, e)

module _ (own : ℕ) (params : List ℕ) (from slot at : ℕ) where
  pub bulk_read_whole : search bulk_read own params from ≡ entry_at slot at → at + 5 ≤ length params
  bulk_read_whole s = (found_whole bulk_read own params from slot at s).fits

  pub bulk_write_whole : search bulk_write own params from ≡ entry_at slot at → at + (5 + word_at params (at + 3)) ≤ length params
  bulk_write_whole s =
      let f : at + (5 + word_at (drop at params) 3) ≤ length params = (found_whole bulk_write own params from slot at s).fits in
      let e = word_drop at params 3 in
      omega arith
