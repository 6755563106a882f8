-- What Action leaves: byte 69 is 0, and the bytes of the registered write are written where the limits have not changed.
use mathlib.Core.Path.{◌≡◌, refl, sym, ap, ap₂, ◌∙◌}
use mathlib.Core.Bool.{Bool, true, false}
use mathlib.Core.List.{List}
use Prim.Native.Nat.{ℕ, min}
use native.Mathlib.Omega.{arith}
use lib.Dec.{leb}
use lib.ListN.{length, take, set, length-set}
use lib.Seq.{take_all}
use borrow.Author.Tests.{ne_eqb, leb-true, leb-false}
use Rattle.lists.proofs.Bools.{and_left, and_right}
use Rattle.table_registers.specs.Registers.{table_size, min_position, max_position, registered_instruction}
use Rattle.table_items.specs.Items.{value_of, same, put}
use Rattle.table_items.proofs.Same.{same_equal}
use Rattle.table_access.proofs.Put.{put_byte}
use Rattle.device_instructions.specs.Registered.{dropped, same_limits, LimitsOf}
use Rattle.device_instructions.specs.Instructions.{Effect, refusing, write, action}
use Rattle.device_instructions.specs.Results.{sized}
use Rattle.device_instructions.proofs.Sized.{of_size}
use Rattle.device_instructions.specs.declared.RegisteredWrite.{RegisteredWrite}

-- ---- how many bytes

-- as many bytes as there are, where the count is larger
all_eight : (count n : ℕ) (bytes : List ℕ) → length bytes ≡ 8 → n ≡ min count 8 → take n bytes ≡ take count bytes
all_eight count n bytes l e = by_count (leb count 8) refl
  where
    by_count : (b : Bool) → leb count 8 ≡ b → take n bytes ≡ take count bytes
    by_count true t = let h = leb-true count 8 t in let same_count : n ≡ count = omega arith in rw same_count
    by_count false t = let h = leb-false count 8 t in take_all n bytes (omega arith) ∙ sym (take_all count bytes (omega arith))

-- ---- the test and the equations

pub limits_of_lem : (table : List ℕ) (w : RegisteredWrite) → same_limits table w ≡ true → LimitsOf table w
unfolding same_limits
limits_of_lem table w e =
    let low = same (value_of min_position table) w.min in
    let high = same (value_of max_position table) w.max in
    record { same_min = sym (same_equal _ _ (and_left low high e)); same_max = sym (same_equal _ _ (and_right low high e)) }

pub not_limits : (table : List ℕ) (w : RegisteredWrite) → ¬ LimitsOf table w → same_limits table w ≡ false
not_limits table w n = by_test (same_limits table w) refl
  where
    by_test : (b : Bool) → same_limits table w ≡ b → b ≡ false
    by_test true e = absurd (n (limits_of_lem table w e))
    by_test false e = refl

-- ---- what is left

module _ (table : List ℕ) (w : RegisteredWrite) (s : length table ≡ table_size) where
  cleared : set table 69 0 ≡ put table registered_instruction 0
  cleared = sym (put_byte table registered_instruction 0 refl (omega arith) (omega arith))

  module _ (z : w.count ≡ 0 → ⊥) where
    -- the limits have changed
    pub not_acted : same_limits table w ≡ false → refusing (set table 69 0) dropped 0x06 ≡ action table w
    unfolding action
    not_acted f = ap (λ (t : List ℕ). refusing t dropped 0x06) cleared ∙ sym (rw (ne_eqb w.count 0 z, f))

    -- an Action that is not refused has found them as they were
    pub acts_on_same : (action table w).error ≡ 0 → same_limits table w ≡ true
    acts_on_same e = by_limits (same_limits table w) refl
      where
        by_limits : (b : Bool) → same_limits table w ≡ b → b ≡ true
        by_limits true f = refl
        by_limits false f =
            let n : ◌≡◌ {A = ℕ} 6 0 = ap (λ (e : Effect). e.error) (not_acted f) ∙ e in
            absurd (omega arith)

    pub acted : (n : ℕ) → length w.bytes ≡ 8 → same_limits table w ≡ true → n ≡ min w.count 8
        → sized (set table 69 0) dropped (write (set table 69 0) dropped w.address (take n w.bytes)) ≡ action table w
    unfolding action
    acted n l t e =
        of_size (set table 69 0) dropped _ (simp length-set s)
        ∙ ap₂ (λ (t b : List ℕ). write t dropped w.address b) cleared (all_eight w.count n w.bytes l e)
        ∙ sym (rw (ne_eqb w.count 0 z, t))
