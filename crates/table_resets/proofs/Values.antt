-- The values of registers after Reboot and Factory Reset: limits in order have the goal position between them then.
use mathlib.Core.Path.{◌≡◌, refl, ap, ◌∙◌}
use mathlib.Core.Bool.{Bool, true, false, not, cond, ◌&&◌}
use mathlib.Core.List.{List, [], ◌∷◌, ◌++◌}
use Prim.Native.Nat.{ℕ, suc, ◌+◌, ◌≤◌}
use native.Mathlib.Omega.{arith}
use lib.Dec.{leb}
use lib.IntN.{ℤ, pos}
use lib.ListN.{length, take, drop, length-drop}
use lib.Seq.{length-take-le}
use lib.Signed.{le_z}
use borrow.Author.Tests.{leb-true, not-true}
use Rattle.lists.specs.Numbers.{number_at, bytes_of}
use Rattle.lists.proofs.Numbers.{part_number}
use Rattle.lists.proofs.Bools.{and_left, and_right}
use Rattle.table_registers.specs.Registers.{Register, registers, table_size, end_of, max_position, min_position, goal_position}
use Rattle.table_registers.proofs.Rows.{place_in, mark_of}
use Rattle.table_items.specs.Items.{signed, value_at, value_of, item_bytes, put}
use Rattle.table_items.proofs.Signed.{le_refl}
use Rattle.table_rules.specs.Rules.{touches, goal_inside}
use Rattle.table_rules.proofs.Stored.{value_at_lem, value_kept, stored_length}
use Rattle.table_access.specs.Fresh.{freshened}
use Rattle.table_access.proofs.Put.{put_length, put_value, put_kept}
use Rattle.table_resets.specs.Resets.{only, reset_at_reboot, rebooted, reset_rom}
use Rattle.table_resets.proofs.Resets.{reset_by}

-- a table of its size in which the register has this value
record Holds (r : Register) (value : ℤ) (table : List ℕ) : Type 0 where
  pub sized : length table ≡ table_size
  pub value_is : value_of r table ≡ value

-- the register lies in a table, and has no byte of r
abbrev apart : Register → Register → Bool
apart r s = leb (end_of s) table_size && not (touches s.address s.bytes r)

abbrev all_apart : Register → List Register → Bool
all_apart r [] = true
all_apart r (s ∷ rs) = apart r s && all_apart r rs

-- its value then
abbrev fresh_of : Register → ℤ
fresh_of r = value_at (bytes_of r.bytes r.fresh) 0 r.bytes

module _ (test : Register → Bool) (r : Register) where
  -- a register that has no byte of r becomes fresh
  module _ (s : Register) (e : apart r s ≡ true) (table : List ℕ) (sized : length table ≡ table_size) where
    fits_in : end_of s ≤ length table
    fits_in =
        let inside = leb-true (end_of s) table_size (and_left (leb (end_of s) table_size) (not (touches s.address s.bytes r)) e) in
        let l = sized in
        omega arith

    other_length : length (put table s s.fresh) ≡ table_size
    other_length = put_length table s s.fresh fits_in ∙ sized

    other_kept : value_of r (put table s s.fresh) ≡ value_of r table
    other_kept =
        put_kept table s s.fresh fits_in r (not-true _ (and_right (leb (end_of s) table_size) (not (touches s.address s.bytes r)) e))

  -- and so of a list, of which some become fresh
  passing : (value : ℤ) (rs : List Register) → all_apart r rs ≡ true → (table : List ℕ) → Holds r value table
      → Holds r value (freshened (only test rs) table)
  unfolding freshened
  passing value [] e table h = h
  passing value (s ∷ rs) e table h = one_more_lem (passing value rs (and_right (apart r s) (all_apart r rs) e)) (test s)
    where
      one_more_lem : ((t : List ℕ) → Holds r value t → Holds r value (freshened (only test rs) t)) → (b : Bool)
          → Holds r value (freshened (cond b (s ∷ only test rs) (only test rs)) table)
      one_more_lem rest false = rest table h
      one_more_lem rest true =
          let own = and_left (apart r s) (all_apart r rs) e in
          rest (put table s s.fresh)
          (record { sized = other_length s own table h.sized; value_is = other_kept s own table h.sized ∙ h.value_is })

  -- of registers without a common byte, r becomes fresh where the test picks it
  picked : (front back : List Register) → all_apart r front ≡ true → all_apart r back ≡ true → end_of r ≤ table_size
      → (table : List ℕ) → length table ≡ table_size
      → Holds r (cond (test r) (fresh_of r) (value_of r table)) (freshened (only test (front ++ r ∷ back)) table)
  unfolding freshened
  picked [] back f b inside table sized = own (test r)
    where
      own : (t : Bool) → Holds r (cond t (fresh_of r) (value_of r table)) (freshened (cond t (r ∷ only test back) (only test back)) table)
      own false = passing (value_of r table) back b table (record { sized = sized; value_is = refl })
      own true =
          let l = sized in
          passing (fresh_of r) back b (put table r r.fresh)
          (record { sized = put_length table r r.fresh (omega arith) ∙ l; value_is = put_value table r r.fresh (omega arith) })
  picked (s ∷ front) back f b inside table sized =
      one_more_lem (picked front back (and_right (apart r s) (all_apart r front) f) b inside) (test s)
    where
      one_more_lem : ((t : List ℕ) → length t ≡ table_size → Holds r (cond (test r) (fresh_of r) (value_of r t)) (freshened (only test (front ++ r ∷ back)) t))
          → (t : Bool)
          → Holds r (cond (test r) (fresh_of r) (value_of r table)) (freshened (cond t (s ∷ only test (front ++ r ∷ back)) (only test (front ++ r ∷ back))) table)
      one_more_lem rest false = rest table sized
      one_more_lem rest true =
          let e = and_left (apart r s) (all_apart r front) f in
          let h = rest (put table s s.fresh) (other_length s e table sized) in
          record {
            sized = h.sized;
            value_is = h.value_is ∙ ap (λ (v : ℤ). cond (test r) (fresh_of r) v) (other_kept s e table sized);
          }

-- ---- the limits

module _ (table : List ℕ) (sized : length table ≡ table_size) (test : Register → Bool) where
  min_picked : Holds min_position (cond (test min_position) (pos 0) (value_of min_position table)) (freshened (only test registers) table)
  unfolding registers place_in bytes_of number_at value_at
  min_picked = picked test min_position (take (mark_of min_position) registers) (drop (suc (mark_of min_position)) registers) refl refl (omega arith) table sized

  max_picked : Holds max_position (cond (test max_position) (pos 4095) (value_of max_position table)) (freshened (only test registers) table)
  unfolding registers place_in bytes_of number_at value_at
  max_picked = picked test max_position (take (mark_of max_position) registers) (drop (suc (mark_of max_position)) registers) refl refl (omega arith) table sized

-- ---- Reboot

module _ (table : List ℕ) (sized : length table ≡ table_size) where
  -- the RAM items are fresh, and the goal position comes last
  abbrev fresh_ram : List ℕ
  fresh_ram = freshened (only reset_at_reboot registers) table

  min_length : length (item_bytes min_position table) ≡ 4
  min_length = length-take-le 4 (drop 52 table) (simp length-drop (omega arith))

  module _ (r : Register) (h : Holds r (value_of r table) fresh_ram) (apart-goal : touches 116 4 r ≡ false) where
    fits : 116 + length (item_bytes min_position table) ≤ length fresh_ram
    fits =
        let l = min_length in
        let s = h.sized in
        omega arith

    rebooted_kept : value_of r (rebooted table) ≡ value_of r table
    unfolding rebooted
    rebooted_kept = value_kept fresh_ram 116 (item_bytes min_position table) fits r (rw min_length apart-goal) ∙ h.value_is

  ram_min : Holds min_position (value_of min_position table) fresh_ram
  ram_min = min_picked table sized reset_at_reboot

  ram_max : Holds max_position (value_of max_position table) fresh_ram
  ram_max = max_picked table sized reset_at_reboot

  rebooted_goal : value_of goal_position (rebooted table) ≡ value_of min_position table
  unfolding rebooted value_at
  rebooted_goal =
      let l = min_length in
      value_at_lem fresh_ram 116 (item_bytes min_position table) (fits min_position ram_min refl) 0 4 (omega arith)
      ∙ ap signed (part_number table 52 4)

  pub rebooted_length : length (rebooted table) ≡ table_size
  unfolding rebooted
  rebooted_length = stored_length fresh_ram 116 (item_bytes min_position table) (fits min_position ram_min refl) ∙ ram_min.sized

  -- the goal position is the min position, so that limits in order have it between them
  pub rebooted_inside : le_z (value_of min_position table) (value_of max_position table) ≡ true → goal_inside (rebooted table) ≡ true
  unfolding goal_inside
  rebooted_inside ordered =
      rw (rebooted_goal, rebooted_kept min_position ram_min refl, rebooted_kept max_position ram_max refl, le_refl (value_of min_position table)) ordered

-- ---- Factory Reset

-- where it resets both limits, they are in order
module _ (table : List ℕ) (sized : length table ≡ table_size) (keeps : Register → Bool) where
  pub reset_length : length (reset_rom keeps table) ≡ table_size
  unfolding reset_rom
  reset_length = (min_picked table sized (reset_by keeps)).sized

  reset_min : keeps min_position ≡ false → value_of min_position (reset_rom keeps table) ≡ pos 0
  unfolding reset_rom
  reset_min e = (min_picked table sized (reset_by keeps)).value_is ∙ ap (λ (b : Bool). cond (not b) (pos 0) (value_of min_position table)) e

  reset_max : keeps max_position ≡ false → value_of max_position (reset_rom keeps table) ≡ pos 4095
  unfolding reset_rom
  reset_max e = (max_picked table sized (reset_by keeps)).value_is ∙ ap (λ (b : Bool). cond (not b) (pos 4095) (value_of max_position table)) e

  pub reset_ordered : keeps min_position ≡ false → keeps max_position ≡ false
      → le_z (value_of min_position (reset_rom keeps table)) (value_of max_position (reset_rom keeps table)) ≡ true
  reset_ordered low high = rw (reset_min low, reset_max high)
