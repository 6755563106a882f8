-- A table of the right size, and one of another.
use Rattle.std.specs.Prelude.{Option, Some}
use mathlib.Core.Path.{◌≡◌}
use mathlib.Core.List.{List}
use Prim.Native.Nat.{ℕ}
use lib.ListN.{length}
use borrow.Author.Tests.{eq-eqb, ne_eqb}
use Rattle.table_registers.specs.Registers.{table_size}
use Rattle.table_rules.specs.Limits.{limits_of, limits_in}
use Rattle.table_rules.specs.Outcomes.{in_table, on_table}

module _ (table : List ℕ) where
  module _ (s : length table ≡ table_size) where
    pub in_table_lem : (next : Option ℕ) → in_table table next ≡ next
    in_table_lem next = rw (eq-eqb (length table) table_size s)

    pub on_table_lem : (new : List ℕ) → on_table table new ≡ new
    on_table_lem new = rw (eq-eqb (length table) table_size s)

    pub limits_of_lem : limits_in table ≡ limits_of table
    limits_of_lem = rw (eq-eqb (length table) table_size s)

  module _ (n : length table ≡ table_size → ⊥) where
    pub not_in_table : (next : Option ℕ) → in_table table next ≡ Some 21
    not_in_table next = rw (ne_eqb (length table) table_size n)

    pub off_table : (new : List ℕ) → on_table table new ≡ table
    off_table new = rw (ne_eqb (length table) table_size n)
