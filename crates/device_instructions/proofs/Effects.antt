-- What the calls of the control table come to in an effect.
use Rattle.std.specs.Prelude.{None, Option, Some}
use mathlib.Core.Path.{◌≡◌, refl, sym, ap, ◌∙◌}
use mathlib.Core.List.{List, []}
use Prim.Native.Nat.{ℕ}
use native.Mathlib.Omega.{arith}
use lib.ListN.{length, take, drop, set, length-take, length-drop}
use Rattle.answers.specs.Refusals.{unless_refused}
use Rattle.lists.specs.Write.{padded}
use Rattle.table_registers.specs.Registers.{table_size, registered_instruction}
use Rattle.table_rules.specs.Rules.{stored, read_rule, write_rule}
use Rattle.table_rules.specs.Outcomes.{in_table}
use Rattle.table_rules.proofs.Size.{in_table_lem, not_in_table}
use Rattle.table_rules.proofs.WriteStages.{good_read, good_write}
use Rattle.table_access.specs.Answers.{read_bytes, write_out}
use Rattle.table_access.proofs.Theorems.{read_inside}
use Rattle.table_access.proofs.Put.{put_byte}
use Rattle.device_instructions.specs.Registered.{registering}
use Rattle.device_instructions.specs.Instructions.{Effect, error_of, read, write, reg_write}
use Rattle.device_instructions.specs.Results.{Done, done_with, done_of, sized}
use Rattle.device_instructions.proofs.Sized.{of_size, by_size}
use Rattle.device_instructions.specs.declared.RegisteredWrite.{RegisteredWrite}

module _ (table : List ℕ) (rule : Option ℕ) where
  in_rule : (r : Option ℕ) → r ≡ in_table table rule → length table ≡ table_size → rule ≡ r
  in_rule r e s = sym (e ∙ in_table_lem table s rule)

  error_21 : (r : Option ℕ) → r ≡ in_table table rule → (w : RegisteredWrite) → (length table ≡ table_size → ⊥)
      → done_with (error_of r) [] w ≡ done_with 21 [] w
  error_21 r e w n = ap (λ (r : Option ℕ). done_with (error_of r) [] w) (e ∙ not_in_table table n rule)

module _ (table : List ℕ) (w : RegisteredWrite) (address : ℕ) where
  module _ (n : ℕ) where
    pub read_refused : (number : ℕ) → Some number ≡ in_table table (read_rule address n)
        → done_with number [] w ≡ done_of (sized table w (read table w address n))
    unfolding read
    read_refused number e =
        by_size table w (read table w address n) (λ (f : Effect). done_with number [] w ≡ done_of f)
        (λ s. rw (in_rule table (read_rule address n) (Some number) e s)) (error_21 table (read_rule address n) (Some number) e w)

    pub read_done : None ≡ in_table table (read_rule address n) → (bytes : List ℕ) → bytes ≡ read_bytes table address n
        → ◌≡◌ {A = Done} (record { error = 0; count = n; bytes = bytes; registered = w }) (done_of (sized table w (read table w address n)))
    unfolding read
    read_done e bytes b =
        let s = (good_read table address n (sym e)).sized in
        let g = in_rule table (read_rule address n) None e s in
        let i = read_inside table address n (sym e) in
        let l : n ≡ length (take n (drop address table)) = simp (length-take, length-drop) (omega arith) in
        rw (g) (ap (λ (b : List ℕ). record { error = 0; count = n; bytes = b; registered = w }) (b ∙ rw (in_table_lem table s (read_rule address n), g))
        ∙ ap (λ (k : ℕ). record { error = 0; count = k; bytes = padded 8 (take n (drop address table)); registered = w }) l)
        ∙ ap done_of (sym (of_size table w (read table w address n) s))

  module _ (bytes : List ℕ) where
    pub write_done : (r : Option ℕ) → r ≡ in_table table (write_rule table address bytes)
        → done_with (error_of r) [] w ≡ done_of (sized table w (write table w address bytes))
    unfolding write
    write_done r e =
        by_size table w (write table w address bytes) (λ (f : Effect). done_with (error_of r) [] w ≡ done_of f)
        (λ s. ap (λ (r : Option ℕ). done_with (error_of r) [] w) (e ∙ in_table_lem table s (write_rule table address bytes)))
        (error_21 table (write_rule table address bytes) r e w)

    pub write_table : write_out table address bytes ≡ (sized table w (write table w address bytes)).table
    unfolding write
    write_table =
        by_size table w (write table w address bytes) (λ (f : Effect). write_out table address bytes ≡ f.table)
        (λ s. ap (λ (r : Option ℕ). unless_refused r table (stored table address bytes)) (in_table_lem table s (write_rule table address bytes)))
        (λ n. ap (λ (r : Option ℕ). unless_refused r table (stored table address bytes)) (not_in_table table n (write_rule table address bytes)))

    module _ (number : ℕ) (e : Some number ≡ in_table table (write_rule table address bytes)) where
      pub reg_write_refused : done_with number [] w ≡ done_of (sized table w (reg_write table w address bytes))
      unfolding reg_write
      reg_write_refused =
          by_size table w (reg_write table w address bytes) (λ (f : Effect). done_with number [] w ≡ done_of f)
          (λ s. rw (in_rule table (write_rule table address bytes) (Some number) e s)) (error_21 table (write_rule table address bytes) (Some number) e w)

      pub reg_write_stays : table ≡ (sized table w (reg_write table w address bytes)).table
      unfolding reg_write
      reg_write_stays =
          by_size table w (reg_write table w address bytes) (λ (f : Effect). table ≡ f.table)
          (λ s. rw (in_rule table (write_rule table address bytes) (Some number) e s)) (λ n. refl)

    module _ (e : None ≡ in_table table (write_rule table address bytes)) where
      -- a good one is on a table of its size
      pub reg_write_sized : length table ≡ table_size
      reg_write_sized = (good_write table address bytes (sym e)).sized

      pub reg_write_done : done_with 0 [] (registering table address bytes) ≡ done_of (reg_write table w address bytes)
      unfolding reg_write
      reg_write_done = rw (in_rule table (write_rule table address bytes) None e reg_write_sized)

      pub reg_write_table : set table 69 1 ≡ (reg_write table w address bytes).table
      unfolding reg_write
      reg_write_table =
          let s = reg_write_sized in
          rw (in_rule table (write_rule table address bytes) None e s)
          (sym (put_byte table registered_instruction 1 refl (omega arith) (omega arith)))
