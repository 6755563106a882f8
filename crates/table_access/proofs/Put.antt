-- A number in the place of a register, as stores of its bytes.
use mathlib.Core.Path.{◌≡◌, refl, sym, ap, ◌∙◌}
use mathlib.Core.Bool.{false}
use mathlib.Core.List.{List}
use Prim.Native.Nat.{ℕ, ◌+◌, ◌≤◌, ◌<◌}
use native.Mathlib.Nat.{mod-eq_of_lt}
use native.Mathlib.Omega.{arith}
use lib.IntN.{ℤ}
use lib.ListN.{length, set}
use lib.Seq.{sets}
use Rattle.table_registers.specs.Registers.{Register, table_size, end_of, present_position, hardware_error}
use Rattle.lists.specs.Write.{placed}
use Rattle.lists.specs.Numbers.{bytes_of}
use Rattle.lists.proofs.Numbers.{bytes_length}
use Rattle.table_items.specs.Items.{value_at, value_of, put, unsigned}
use Rattle.table_rules.specs.Rules.{touches}
use Rattle.table_rules.proofs.Stored.{value_at_lem, value_kept, stored_sets, stored_length}
use Rattle.table_access.specs.Fresh.{measured}

module _ (table : List ℕ) (r : Register) (u : ℕ) (inside : end_of r ≤ length table) where
  pub put_sets : put table r u ≡ sets table r.address (bytes_of r.bytes u)
  unfolding put
  put_sets = sym (stored_sets table r.address (bytes_of r.bytes u) (omega (arith, bytes_length r.bytes u)))

  pub put_length : length (put table r u) ≡ length table
  unfolding put
  put_length = stored_length table r.address (bytes_of r.bytes u) (omega (arith, bytes_length r.bytes u))

  -- the register's value, and that of one that has none of its bytes
  pub put_value : value_of r (put table r u) ≡ value_at (bytes_of r.bytes u) 0 r.bytes
  unfolding put
  put_value =
      let l = bytes_length r.bytes u in
      let e : r.address + 0 ≡ r.address = omega arith in
      rw e at (value_at_lem table r.address (bytes_of r.bytes u) (omega arith) 0 r.bytes (omega arith))

  pub put_kept : (s : Register) → touches r.address r.bytes s ≡ false → value_of s (put table r u) ≡ value_of s table
  unfolding put
  put_kept s e =
      let l = bytes_length r.bytes u in
      value_kept table r.address (bytes_of r.bytes u) (omega arith) s (rw l e)

-- a register of one byte
pub put_byte : (table : List ℕ) (r : Register) (b : ℕ) → r.bytes ≡ 1 → r.address < length table → b < 256 → put table r b ≡ set table r.address b
unfolding bytes_of
put_byte table r b one inside h =
    put_sets table r b (omega arith) ∙ rw (one) (ap (set table r.address) (mod-eq_of_lt h))

-- the measurement call
pub measured_placed : (table : List ℕ) (position : ℤ) (error : ℕ) → length table ≡ table_size → error < 256
    → set (placed table 132 (bytes_of 4 (unsigned position))) 70 error ≡ measured table position error
unfolding put
measured_placed table position error sized h =
    let p = put table present_position (unsigned position) in
    let l = put_length table present_position (unsigned position) (omega arith) in
    sym (put_byte p hardware_error error refl (omega arith) h)
