-- The table that a write leaves, byte by byte: those before the written ones, these, and those after them.
use mathlib.Core.Path.{◌≡◌, refl, sym, ap, ◌∙◌}
use mathlib.Core.Bool.{Bool, true, false, cond}
use mathlib.Core.List.{List, ◌++◌, append_assoc}
use Prim.Native.Nat.{ℕ, ◌+◌, ◌-◌, ◌≤◌, ◌<◌}
use native.Mathlib.Omega.{arith}
use lib.Dec.{ltb, eqb}
use lib.IntN.{pos}
use lib.ListN.{length, take, drop, get_or, length-append, length-drop, get_or-append}
use lib.Seq.{length-take-le, drop-drop, get_or-append-add, get_or-take, get_or-drop, sets, sets-eq}
use Rattle.lists.specs.Write.{overwritten}
use Rattle.lists.proofs.Numbers.{same_number}
use Rattle.lists.specs.Numbers.{number_at}
use borrow.Author.Tests.{ltb-false}
use Rattle.table_registers.specs.Registers.{Register, end_of}
use Rattle.table_items.specs.Items.{signed, value_at, value_of}
use Rattle.table_rules.specs.Rules.{touches, stored}

module _ (table : List ℕ) (address : ℕ) (bytes : List ℕ) (fits : address + length bytes ≤ length table) where
  front : length (take address table) ≡ address
  front = length-take-le address table (omega arith)

  -- from the address on
  behind : (k : ℕ) → get_or (stored table address bytes) (address + k) 0 ≡ get_or (overwritten (drop address table) bytes) k 0
  behind k =
      ap (λ (n : ℕ). get_or (stored table address bytes) (n + k) 0) (sym front)
      ∙ get_or-append-add (take address table) (overwritten (drop address table) bytes) k 0

  pub stored_before : (a : ℕ) → a < address → get_or (stored table address bytes) a 0 ≡ get_or table a 0
  stored_before a h =
      get_or-append (take address table) (overwritten (drop address table) bytes) 0 a (omega (arith, front))
      ∙ get_or-take address table a 0 h

  pub stored_at : (k : ℕ) → k < length bytes → get_or (stored table address bytes) (address + k) 0 ≡ get_or bytes k 0
  stored_at k h = behind k ∙ get_or-append bytes (drop (length bytes) (drop address table)) 0 k h

  pub stored_after : (a : ℕ) → address + length bytes ≤ a → get_or (stored table address bytes) a 0 ≡ get_or table a 0
  stored_after a h =
      let k = a - (address + length bytes) in
      let e : a ≡ address + (length bytes + k) = omega arith in
      ap (λ (n : ℕ). get_or (stored table address bytes) n 0) e
      ∙ behind (length bytes + k)
      ∙ get_or-append-add bytes (drop (length bytes) (drop address table)) k 0
      ∙ get_or-drop (length bytes) (drop address table) k 0
      ∙ get_or-drop address table (length bytes + k) 0
      ∙ ap (λ (n : ℕ). get_or table n 0) (sym e)

  -- items that the write has whole, and items of which it has nothing
  pub number_at_lem : (k n : ℕ) → k + n ≤ length bytes → number_at (stored table address bytes) (address + k) n ≡ number_at bytes k n
  number_at_lem k n h =
      same_number n (stored table address bytes) bytes (address + k) k (λ j l.
      let e : address + k + j ≡ address + (k + j) = omega arith in rw e (stored_at (k + j) (omega arith)))

  pub value_at_lem : (k n : ℕ) → k + n ≤ length bytes → value_at (stored table address bytes) (address + k) n ≡ value_at bytes k n
  unfolding value_at
  value_at_lem k n h = rw (number_at_lem k n h)

  pub number_before : (a n : ℕ) → a + n ≤ address → number_at (stored table address bytes) a n ≡ number_at table a n
  number_before a n h = same_number n (stored table address bytes) table a a (λ j l. stored_before (a + j) (omega arith))

  pub number_after : (a n : ℕ) → address + length bytes ≤ a → number_at (stored table address bytes) a n ≡ number_at table a n
  number_after a n h = same_number n (stored table address bytes) table a a (λ j l. stored_after (a + j) (omega arith))

  -- by its register
  pub value_kept : (r : Register) → touches address (length bytes) r ≡ false → value_of r (stored table address bytes) ≡ value_of r table
  unfolding value_at
  value_kept r e =
      ap (λ (u : ℕ). cond (eqb r.bytes 4) (signed u) (pos u)) (by_start (ltb r.address (address + length bytes)) refl)
    where
      by_start : (b : Bool) → ltb r.address (address + length bytes) ≡ b
          → number_at (stored table address bytes) r.address r.bytes ≡ number_at table r.address r.bytes
      by_start false s = number_after r.address r.bytes (ltb-false r.address (address + length bytes) s)
      by_start true s = number_before r.address r.bytes (ltb-false address (end_of r) (rw s at e))

  joined : (take address table ++ bytes) ++ drop (address + length bytes) table ≡ stored table address bytes
  joined =
      append_assoc (take address table) bytes (drop (address + length bytes) table)
      ∙ ap (λ (l : List ℕ). take address table ++ (bytes ++ l)) (sym (drop-drop (length bytes) address table))

  -- byte by byte, one statement after the other
  pub stored_sets : sets table address bytes ≡ stored table address bytes
  stored_sets = sets-eq bytes table address fits ∙ joined

  pub stored_length : length (stored table address bytes) ≡ length table
  stored_length = simp (length-append, front, length-drop) (omega arith)
