-- The write rule by its stages: what each of them says, and what a good write has passed.
use Rattle.std.specs.Prelude.{None, Option, Some}
use Rattle.std.proofs.lemmas.Option.{none-some}
use mathlib.Core.Path.{◌≡◌, refl, sym}
use mathlib.Core.Bool.{Bool, true, false, cond}
use mathlib.Core.List.{List}
use Prim.Native.Nat.{ℕ, ◌≤◌, ◌<◌}
use native.Mathlib.Omega.{arith}
use lib.Dec.{eqb, ltb}
use lib.ListN.{length, get_or}
use borrow.Author.Tests.{eq-eqb, ne_eqb, eqb-true, lt-ltb, le-ltb, ltb-true}
use Rattle.table_registers.specs.Registers.{registers, table_size, torque_enable, every_byte}
use Rattle.table_items.specs.Items.{value_in_range}
use Rattle.table_rules.specs.Rules.{least_to_write, covers, every_touched, limits_kept, stored, read_rule, write_rule}
use Rattle.table_rules.specs.Stages.{items_rule}
use Rattle.table_rules.specs.Outcomes.{in_table}

pub least_two : (table : List ℕ) → 2 ≤ least_to_write table
least_two table = by_torque (eqb (get_or table torque_enable.address 0) 0)
  where
    by_torque : (b : Bool) → 2 ≤ cond b 2 3
    by_torque true = omega arith
    by_torque false = omega arith

pub least_some : (table : List ℕ) → 1 ≤ least_to_write table
least_some table = let h = least_two table in omega arith

-- a refusal by one of two stages stands, whatever stage comes after them
still_refused : (number : ℕ) (c r : Bool) (next : Option ℕ)
    → Some number ≡ cond c (cond r None (Some 0x04)) (Some 0x05) → Some number ≡ cond c (cond r next (Some 0x04)) (Some 0x05)
still_refused number false r next h = h
still_refused number true false next h = h
still_refused number true true next h = absurd (none-some number (sym h))

-- a stage that did not refuse
stage_passed : (b : Bool) (number : ℕ) (next : Option ℕ) → cond b next (Some number) ≡ None → (b ≡ true) × (next ≡ None)
stage_passed true number next e = (refl, e)
stage_passed false number next e = absurd (none-some number (sym e))

-- each item that is touched is covered whole, where the items are good
pub items_covered : (address n : ℕ) (new : List ℕ) → None ≡ items_rule address n new → every_touched address n (covers address n) registers ≡ true
unfolding items_rule
items_covered address n new h = (stage_passed (every_touched address n (covers address n) registers) 0x05 _ (sym h)).0

module _ (table : List ℕ) (address : ℕ) (bytes : List ℕ) where
  pub not_table : (length table ≡ table_size → ⊥) → Some 21 ≡ in_table table (write_rule table address bytes)
  not_table h = rw (ne_eqb (length table) table_size h)

  pub no_data : length table ≡ table_size → length bytes ≡ 0 → Some 0x05 ≡ in_table table (write_rule table address bytes)
  unfolding write_rule
  no_data h e = rw (eq-eqb (length table) table_size h, le-ltb 0 (length bytes) (omega arith))

  module _ (sized : length table ≡ table_size) (some-data : length bytes ≡ 0 → ⊥) where
    pub no_access : every_byte (least_to_write table) address (length bytes) ≡ false → Some 0x07 ≡ in_table table (write_rule table address bytes)
    unfolding write_rule
    no_access e = rw (eq-eqb (length table) table_size sized, lt-ltb 0 (length bytes) (omega arith), e)

    module _ (access : every_byte (least_to_write table) address (length bytes) ≡ true) where
      pub by_items : (number : ℕ) → Some number ≡ items_rule address (length bytes) (stored table address bytes)
          → Some number ≡ in_table table (write_rule table address bytes)
      unfolding write_rule items_rule
      by_items number h =
          rw (eq-eqb (length table) table_size sized, lt-ltb 0 (length bytes) (omega arith), access)
          (still_refused number (every_touched address (length bytes) (covers address (length bytes)) registers)
          (every_touched address (length bytes) (value_in_range (stored table address bytes)) registers) _ h)

      -- the items are good, so the limits decide
      pub by_limits : None ≡ items_rule address (length bytes) (stored table address bytes)
          → in_table table (write_rule table address bytes)
          ≡ cond (limits_kept address (length bytes) (stored table address bytes)) None (Some 0x06)
      unfolding write_rule items_rule
      by_limits h =
          let c = stage_passed (every_touched address (length bytes) (covers address (length bytes)) registers) 0x05 _ (sym h) in
          let r = stage_passed (every_touched address (length bytes) (value_in_range (stored table address bytes)) registers) 0x04 None c.1 in
          rw (eq-eqb (length table) table_size sized, lt-ltb 0 (length bytes) (omega arith), access, c.0, r.0)

-- ---- what was not refused

pub record GoodWrite (table : List ℕ) (address : ℕ) (bytes : List ℕ) : Type 0 where
  pub sized : length table ≡ table_size
  pub some_bytes : 0 < length bytes
  pub access : every_byte (least_to_write table) address (length bytes) ≡ true
  pub items_covered : every_touched address (length bytes) (covers address (length bytes)) registers ≡ true
  pub in_range_lem : every_touched address (length bytes) (value_in_range (stored table address bytes)) registers ≡ true
  pub limits : limits_kept address (length bytes) (stored table address bytes) ≡ true

pub good_write : (table : List ℕ) (address : ℕ) (bytes : List ℕ) → in_table table (write_rule table address bytes) ≡ None
    → GoodWrite table address bytes
unfolding write_rule
good_write table address bytes e =
    let n = length bytes in
    let new = stored table address bytes in
    let t = stage_passed (eqb (length table) table_size) 21 _ e in
    let d = stage_passed (ltb 0 n) 0x05 _ t.1 in
    let a = stage_passed (every_byte (least_to_write table) address n) 0x07 _ d.1 in
    let c = stage_passed (every_touched address n (covers address n) registers) 0x05 _ a.1 in
    let r = stage_passed (every_touched address n (value_in_range new) registers) 0x04 _ c.1 in
    let l = stage_passed (limits_kept address n new) 0x06 _ r.1 in
    let z = ltb-true 0 n d.0 in
    record {
      sized = eqb-true (length table) table_size t.0;
      some_bytes = omega arith;
      access = a.0;
      items_covered = c.0;
      in_range_lem = r.0;
      limits = l.0;
    }

pub record GoodRead (table : List ℕ) (address n : ℕ) : Type 0 where
  pub sized : length table ≡ table_size
  pub some_bytes : 0 < n
  pub access : every_byte 1 address n ≡ true

pub good_read : (table : List ℕ) (address n : ℕ) → in_table table (read_rule address n) ≡ None → GoodRead table address n
unfolding read_rule
good_read table address n e =
    let t = stage_passed (eqb (length table) table_size) 21 _ e in
    let d = stage_passed (ltb 0 n) 0x05 _ t.1 in
    let a = stage_passed (every_byte 1 address n) 0x07 None d.1 in
    let z = ltb-true 0 n d.0 in
    record { sized = eqb-true (length table) table_size t.0; some_bytes = omega arith; access = a.0 }
