-- The error numbers of reads and writes are at most 7.
use Rattle.std.specs.Prelude.{Option, Some}
use mathlib.Core.Path.{◌≡◌, refl}
use mathlib.Core.Bool.{Bool, true, false, cond, ◌&&◌}
use mathlib.Core.List.{List, [], ◌∷◌}
use Prim.Native.Nat.{ℕ, ◌≤◌}
use native.Mathlib.Omega.{arith}
use lib.Dec.{leb, ltb}
use lib.ListN.{length}
use borrow.Author.Tests.{leb-true}
use Rattle.answers.specs.Refusals.{first_failing}
use Rattle.lists.proofs.Bools.{and_left, and_right}
use Rattle.table_registers.specs.Registers.{registers, every_byte}
use Rattle.table_items.specs.Items.{value_in_range}
use Rattle.table_rules.specs.Rules.{least_to_write, covers, every_touched, limits_kept, stored, read_rule, write_rule}
use Rattle.device_instructions.specs.Instructions.{error_of}

record Numbered (r : Option ℕ) : Type 0 where
  pub at_most_7 : error_of r ≤ 7

abbrev numbered : List (Bool × ℕ) → Bool
numbered [] = true
numbered (t ∷ tests) = leb t.1 7 && numbered tests

-- the number of the first test that fails is one of theirs
first_numbered : (tests : List (Bool × ℕ)) → numbered tests ≡ true → Numbered (first_failing tests)
first_numbered [] e = record { at_most_7 = omega arith }
first_numbered (t ∷ tests) e = by_test t.0 (first_numbered tests (and_right (leb t.1 7) (numbered tests) e))
  where
    by_test : (b : Bool) → Numbered (first_failing tests) → Numbered (cond b (first_failing tests) (Some t.1))
    by_test true rest = rest
    by_test false rest = record { at_most_7 = leb-true t.1 7 (and_left (leb t.1 7) (numbered tests) e) }

pub read_number : (address n : ℕ) → error_of (read_rule address n) ≤ 7
unfolding read_rule
read_number address n = (first_numbered ((ltb 0 n, 0x05) ∷ (every_byte 1 address n, 0x07) ∷ []) refl).at_most_7

pub write_number : (table : List ℕ) (address : ℕ) (bytes : List ℕ) → error_of (write_rule table address bytes) ≤ 7
unfolding write_rule
write_number table address bytes =
    let n = length bytes in
    let new = stored table address bytes in
    (first_numbered
    ((ltb 0 n, 0x05)
    ∷ (every_byte (least_to_write table) address n, 0x07)
    ∷ (every_touched address n (covers address n) registers, 0x05)
    ∷ (every_touched address n (value_in_range new) registers, 0x04)
    ∷ (limits_kept address n new, 0x06)
    ∷ [])
    refl).at_most_7
