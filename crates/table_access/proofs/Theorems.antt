-- What holds of every read and write.
use Rattle.std.specs.Prelude.{None}
use mathlib.Core.Path.{◌≡◌}
use mathlib.Core.List.{List}
use Prim.Native.Nat.{ℕ, ◌+◌, ◌≤◌}
use native.Mathlib.Omega.{arith}
use lib.ListN.{length}
use Rattle.table_registers.proofs.Permits.{every_inside, every_short}
use Rattle.table_rules.specs.Rules.{least_to_write, read_rule, write_rule}
use Rattle.table_rules.specs.Outcomes.{in_table}
use Rattle.table_rules.proofs.WriteStages.{least_some, GoodWrite, good_write, GoodRead, good_read}

module _ (table : List ℕ) (address : ℕ) (bytes : List ℕ) (good : in_table table (write_rule table address bytes) ≡ None) where
  passed : GoodWrite table address bytes
  passed = good_write table address bytes good

  -- a good write has at most 8 bytes, and they lie in the table
  pub write_short : length bytes ≤ 8
  write_short = every_short (least_to_write table) address (length bytes) (least_some table) passed.access

  pub write_inside : address + length bytes ≤ length table
  write_inside =
      let p = every_inside (least_to_write table) address (length bytes) (least_some table) passed.access passed.some_bytes in
      let s = passed.sized in
      omega arith

module _ (table : List ℕ) (address n : ℕ) (good : in_table table (read_rule address n) ≡ None) where
  allowed : GoodRead table address n
  allowed = good_read table address n good

  -- a good read has at most 8 bytes, and they lie in the table
  pub read_short : n ≤ 8
  read_short = every_short 1 address n (omega arith) allowed.access

  pub read_inside : address + n ≤ length table
  read_inside =
      let p = every_inside 1 address n (omega arith) allowed.access allowed.some_bytes in
      let s = allowed.sized in
      omega arith
