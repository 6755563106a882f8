-- What the functions do on a table of the right size, and on one of another.
use Rattle.std.specs.Prelude.{None, Some}
use mathlib.Core.Path.{◌≡◌, refl, ap, ◌∙◌, sym}
use mathlib.Core.Bool.{Bool, true, false, cond}
use mathlib.Core.List.{List, []}
use Prim.Native.Nat.{ℕ}
use lib.Dec.{eqb}
use lib.ListN.{length}
use borrow.Author.Tests.{eq-eqb, ne_eqb, eqb-true, eqb-false}
use Rattle.table_registers.specs.Registers.{table_size}
use Rattle.device_instructions.specs.Instructions.{Effect, refusing}
use Rattle.device_instructions.specs.Results.{Done, done_with, done_of, effect_unless, sized}
use Rattle.device_instructions.specs.declared.RegisteredWrite.{RegisteredWrite}

module _ (table : List ℕ) (w : RegisteredWrite) (e : Effect) where
  -- for a caller whose table has its size
  pub of_size : length table ≡ table_size → sized table w e ≡ e
  of_size s = rw (eq-eqb (length table) table_size s)

  pub of_other_size : (length table ≡ table_size → ⊥) → sized table w e ≡ refusing table w 21
  of_other_size n = rw (ne_eqb (length table) table_size n)

  -- what holds of the effect and of the refusal holds of what is done
  pub by_size : (P : Effect → Type 0) → (length table ≡ table_size → P e) → ((length table ≡ table_size → ⊥) → P (refusing table w 21))
      → P (sized table w e)
  by_size P good bad = by_test (eqb (length table) table_size) refl
    where
      by_test : (b : Bool) → eqb (length table) table_size ≡ b → P (effect_unless (cond b None (Some 21)) table w e)
      by_test true t = good (eqb-true (length table) table_size t)
      by_test false t = bad (eqb-false (length table) table_size t)

  -- the two promises, answer and table, in either case
  module _ (r : Done) (t : List ℕ) where
    pub done : length table ≡ table_size → r ≡ done_of e → t ≡ e.table → (r ≡ done_of (sized table w e)) × (t ≡ (sized table w e).table)
    done s a b = let p = sym (of_size s) in (a ∙ ap done_of p, b ∙ ap (λ (f : Effect). f.table) p)

    pub not_done : (length table ≡ table_size → ⊥) → r ≡ done_with 21 [] w → t ≡ table → (r ≡ done_of (sized table w e)) × (t ≡ (sized table w e).table)
    not_done n a b = let p = sym (of_other_size n) in (a ∙ ap done_of p, b ∙ ap (λ (f : Effect). f.table) p)
