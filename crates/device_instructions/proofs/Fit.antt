-- What a call finds it leaves: a table of its size with an ID up to 252; and a good Reg Write leaves at most 8 bytes.
use Rattle.std.specs.Prelude.{None, Option, Some}
use mathlib.Core.Path.{◌≡◌, refl, sym, ap, ◌∙◌}
use mathlib.Core.Bool.{Bool, true, false, not, cond, ◌&&◌, ◌||◌}
use mathlib.Core.List.{List, [], ◌∷◌}
use Prim.Native.Nat.{ℕ, ◌+◌, ◌-◌, ◌≤◌, ◌<◌}
use native.Mathlib.Omega.{arith}
use lib.Dec.{leb, ltb}
use lib.ListN.{length, get_or, replicate, length-take}
use lib.Signed.{le_z}
use lib.IntN.{ℤ, pos}
use borrow.Author.Tests.{eq-eqb, lt-ltb, ltb-true, ltb-false, leb-true}
use Rattle.lists.proofs.Bools.{and_left, and_right, or_right}
use Rattle.table_registers.specs.Registers.{Register, registers, table_size, end_of, device_id, goal_position, min_position, present_position, hardware_error, registered_instruction}
use Rattle.table_registers.proofs.Rows.{place_in, mark_of}
use Rattle.lists.specs.Numbers.{bytes_of}
use Rattle.table_items.specs.Items.{put, unsigned, item_bytes, value_of, value_in_range}
use Rattle.table_items.proofs.Signed.{value_byte}
use Rattle.table_rules.specs.Rules.{touches, every_touched, stored, write_rule}
use Rattle.table_rules.specs.Outcomes.{in_table}
use Rattle.table_rules.proofs.Stored.{stored_before, stored_at, stored_after, stored_length}
use Rattle.table_rules.proofs.Walks.{each}
use Rattle.table_rules.proofs.WriteStages.{good_write}
use Rattle.table_rules.proofs.Size.{in_table_lem}
use Rattle.table_access.specs.Fresh.{freshened}
use Rattle.table_access.specs.Answers.{fresh_out, measure_out}
use Rattle.lists.proofs.Numbers.{bytes_length}
use Rattle.table_access.proofs.Theorems.{write_short, write_inside}
use Rattle.table_resets.specs.Resets.{only, reset_at_reboot, rebooted, reset_rom}
use Rattle.device_instructions.specs.Registered.{registering, kept_by}
use Rattle.device_instructions.specs.Instructions.{reg_write}
use Rattle.device_instructions.proofs.Kept.{Kept}
use Rattle.device_instructions.specs.declared.RegisteredWrite.{RegisteredWrite}

pub record FitTable (table : List ℕ) : Type 0 where
  pub sized : length table ≡ table_size
  pub known : get_or table device_id.address 0 ≤ 252

-- ---- the table

-- bytes stored inside it, with a good ID where they have the ID
module _ (table : List ℕ) (f : FitTable table) (address : ℕ) (bytes : List ℕ) (inside : address + length bytes ≤ table_size) where
  fits : address + length bytes ≤ length table
  fits = let s = f.sized in omega arith

  stored_fit : (address ≤ 7 → 7 < address + length bytes → get_or (stored table address bytes) 7 0 ≤ 252) → FitTable (stored table address bytes)
  stored_fit good = record { sized = stored_length table address bytes fits ∙ f.sized; known = by_start (ltb 7 address) refl }
    where
      by_end : address ≤ 7 → (b : Bool) → ltb 7 (address + length bytes) ≡ b → get_or (stored table address bytes) 7 0 ≤ 252
      by_end h true e = good h (ltb-true 7 (address + length bytes) e)
      by_end h false e =
          let same = stored_after table address bytes fits 7 (ltb-false 7 (address + length bytes) e) in
          let k = f.known in
          omega arith

      by_start : (b : Bool) → ltb 7 address ≡ b → get_or (stored table address bytes) 7 0 ≤ 252
      by_start true e =
          let same = stored_before table address bytes fits 7 (ltb-true 7 address e) in
          let k = f.known in
          omega arith
      by_start false e = by_end (ltb-false 7 address e) (ltb 7 (address + length bytes)) refl

  -- behind the ID
  stored_behind : 7 < address → FitTable (stored table address bytes)
  stored_behind h = stored_fit (λ a b. absurd (omega arith))

-- and so a register
put_behind : (table : List ℕ) → FitTable table → (r : Register) (u : ℕ) → 7 < r.address → end_of r ≤ table_size → FitTable (put table r u)
unfolding put
put_behind table f r u h i =
    let l = bytes_length r.bytes u in
    stored_behind table f r.address (bytes_of r.bytes u) (omega arith) h

-- ---- a good write

-- bytes that have the ID touch its register
touched : (address n : ℕ) → address ≤ 7 → 7 < address + n → touches address n device_id ≡ true
touched address n h l = rw (lt-ltb 7 (address + n) l, lt-ltb address 8 (omega arith))

if_touched : (address n : ℕ) (b : Bool) → address ≤ 7 → 7 < address + n → (not (touches address n device_id) || b) ≡ true → b ≡ true
if_touched address n b h l e = or_right (not (touches address n device_id)) b e (ap not (touched address n h l))

-- whose range the write rule has tested
own_in_range : (new : List ℕ) (address n : ℕ) → every_touched address n (value_in_range new) registers ≡ true → address ≤ 7 → 7 < address + n
    → get_or new 7 0 ≤ 252
unfolding registers place_in
own_in_range new address n e h l =
    let range = if_touched address n (value_in_range new device_id) h l (each (value_in_range new) address n registers (mark_of device_id) (omega arith) e) in
    let top = and_right (le_z (pos 0) (value_of device_id new)) (le_z (value_of device_id new) (pos 252)) range in
    leb-true (get_or new 7 0) 252 (sym (ap (λ (z : ℤ). le_z z (pos 252)) (value_byte new 7 1 refl)) ∙ top)

good_fit : (table : List ℕ) → FitTable table → (address : ℕ) (bytes : List ℕ) → in_table table (write_rule table address bytes) ≡ None
    → FitTable (stored table address bytes)
good_fit table f address bytes e =
    let i = write_inside table address bytes e in
    let s = f.sized in
    stored_fit table f address bytes (omega arith) (own_in_range _ address (length bytes) (good_write table address bytes e).in_range_lem)

-- ---- fresh values

-- the register is inside, and its fresh value is a good ID where it has that of the device
abbrev fine : Register → Bool
fine r =
    leb (end_of r) table_size
    && (not (touches r.address r.bytes device_id) || leb (get_or (bytes_of r.bytes r.fresh) (7 - r.address) 0) 252)

abbrev all_fine : List Register → Bool
all_fine [] = true
all_fine (r ∷ rs) = fine r && all_fine rs

put_fit : (table : List ℕ) → FitTable table → (r : Register) → fine r ≡ true → FitTable (put table r r.fresh)
unfolding put
put_fit table f r e =
    let l = bytes_length r.bytes r.fresh in
    let i = leb-true (end_of r) table_size (and_left _ _ e) in
    let s = f.sized in
    stored_fit table f r.address (bytes_of r.bytes r.fresh) (omega arith) (λ h k.
    let good = if_touched r.address r.bytes _ h (omega arith) (and_right (leb (end_of r) table_size) _ e) in
    let own = stored_at table r.address (bytes_of r.bytes r.fresh) (omega arith) (7 - r.address) (omega arith) in
    let seven : r.address + (7 - r.address) ≡ 7 = omega arith in
    let low = leb-true (get_or (bytes_of r.bytes r.fresh) (7 - r.address) 0) 252 good in
    omega (arith, rw seven at own))

freshened_fit : (test : Register → Bool) (rs : List Register) → all_fine rs ≡ true → (table : List ℕ) → FitTable table
    → FitTable (freshened (only test rs) table)
unfolding freshened
freshened_fit test [] e table f = f
freshened_fit test (r ∷ rs) e table f =
    by_test (freshened_fit test rs (and_right (fine r) (all_fine rs) e)) (and_left (fine r) (all_fine rs) e) (test r)
  where
    by_test : ((t : List ℕ) → FitTable t → FitTable (freshened (only test rs) t)) → fine r ≡ true → (b : Bool)
        → FitTable (freshened (cond b (r ∷ only test rs) (only test rs)) table)
    by_test rest good true = rest (put table r r.fresh) (put_fit table f r good)
    by_test rest good false = rest table f

registers_fit : (table : List ℕ) → FitTable table → (test : Register → Bool) → FitTable (freshened (only test registers) table)
unfolding registers bytes_of
registers_fit table f test = freshened_fit test registers refl table f

rebooted_fit : (table : List ℕ) → FitTable table → FitTable (rebooted table)
unfolding rebooted
rebooted_fit table f =
    stored_behind (freshened (only reset_at_reboot registers) table) (registers_fit table f reset_at_reboot) goal_position.address
    (item_bytes min_position table) (simp length-take (omega arith)) (omega arith)

reset_fit : (table : List ℕ) → FitTable table → (keeps : Register → Bool) → FitTable (reset_rom keeps table)
unfolding reset_rom
reset_fit table f keeps = registers_fit table f _

-- ---- every call

zeros_fit : FitTable (replicate table_size 0)
zeros_fit = record { sized = refl; known = omega arith }

fresh_fit : (table : List ℕ) → FitTable table → FitTable (fresh_out table)
unfolding registers bytes_of
fresh_fit table f = rw (eq-eqb (length table) table_size f.sized) (freshened_fit (λ r. true) registers refl (replicate table_size 0) zeros_fit)

measure_fit : (table : List ℕ) → FitTable table → (position : ℤ) (error : ℕ) → FitTable (measure_out table position error)
measure_fit table f position error =
    rw (eq-eqb (length table) table_size f.sized)
    (put_behind _ (put_behind table f present_position (unsigned position) (omega arith) (omega arith)) hardware_error error (omega arith) (omega arith))

pub fit_kept : Kept FitTable
fit_kept =
    record {
      by_fresh = fresh_fit;
      by_measurement = measure_fit;
      by_write = λ table f address bytes e. good_fit table f address bytes (in_table_lem table f.sized _ ∙ e);
      by_mark = λ table f b. put_behind table f registered_instruction b (omega arith) (omega arith);
      by_reboot = rebooted_fit;
      by_reset = λ table f keeps low high. rebooted_fit (reset_rom keeps table) (reset_fit table f keeps);
    }

-- ---- the registered write

pub reg_write_short : (table : List ℕ) (w : RegisteredWrite) → length table ≡ table_size → w.count ≤ 8 → (address : ℕ) (bytes : List ℕ)
    → (reg_write table w address bytes).registered.count ≤ 8
unfolding reg_write
reg_write_short table w sized short address bytes = by_rule (write_rule table address bytes) refl
  where
    by_rule : (r : Option ℕ) → write_rule table address bytes ≡ r → (kept_by r w (registering table address bytes)).count ≤ 8
    by_rule None e = write_short table address bytes (in_table_lem table sized _ ∙ e)
    by_rule (Some number) e = short
