-- A reaction to what is heard with a table of the right size, and with one of another.
use mathlib.Core.Path.{◌≡◌, sym, ap, ◌∙◌}
use mathlib.Core.List.{List, []}
use Prim.Native.Nat.{ℕ}
use lib.ListN.{length}
use borrow.Author.Tests.{eq-eqb, ne_eqb}
use Rattle.table_registers.specs.Registers.{table_size}
use Rattle.device_instructions.specs.Instructions.{refusing}
use Rattle.device_instructions.specs.Results.{done_with}
use Rattle.device_instructions.specs.declared.RegisteredWrite.{RegisteredWrite}
use Rattle.device_replies.specs.Replies.{silent, Reaction, reacting}
use Rattle.device_replies.specs.Results.{Told, reacted_by, reacted_of, sized_reaction, sized_effect}

module _ (table : List ℕ) (w : RegisteredWrite) (q : Reaction) where
  -- for a caller whose table has its size
  pub reaction_of_size : length table ≡ table_size → sized_reaction table w q ≡ q
  reaction_of_size s = rw (eq-eqb (length table) table_size s)

  effect_of_size : length table ≡ table_size → sized_effect table w q ≡ q
  effect_of_size s = rw (eq-eqb (length table) table_size s)

  -- what was done by an entry, and the table that it left
  pub by_entry_lem : length table ≡ table_size → (r : Told) → r ≡ reacted_of (sized_effect table w q) → r ≡ reacted_of q
  by_entry_lem s r a = a ∙ ap reacted_of (effect_of_size s)

  pub left_by_entry : length table ≡ table_size → (t : List ℕ) → t ≡ (sized_effect table w q).effect.table → t ≡ q.effect.table
  left_by_entry s t b = b ∙ ap (λ (x : Reaction). x.effect.table) (effect_of_size s)

  no_reaction : (length table ≡ table_size → ⊥) → sized_reaction table w q ≡ reacting (refusing table w 21) silent
  no_reaction n = rw (ne_eqb (length table) table_size n)

  -- what a function answers, by the reaction that the code shows
  pub answer_of_size : length table ≡ table_size → (r : Told) → r ≡ reacted_of q → r ≡ reacted_of (sized_reaction table w q)
  answer_of_size s r a = a ∙ ap reacted_of (sym (reaction_of_size s))

  pub no_answer : (length table ≡ table_size → ⊥) → (r : Told) → r ≡ reacted_by silent (done_with 21 [] w) → r ≡ reacted_of (sized_reaction table w q)
  no_answer n r a = a ∙ ap reacted_of (sym (no_reaction n))

  -- and the table that it leaves
  reacted_as : (p : Reaction) → p ≡ sized_reaction table w q → (r : Told) (t : List ℕ) → r ≡ reacted_of p → t ≡ p.effect.table
      → (r ≡ reacted_of (sized_reaction table w q)) × (t ≡ (sized_reaction table w q).effect.table)
  reacted_as p e r t a b = (a ∙ ap reacted_of e, b ∙ ap (λ (x : Reaction). x.effect.table) e)

  pub reacted_of_size : length table ≡ table_size → (p : Reaction) → p ≡ q → (r : Told) (t : List ℕ) → r ≡ reacted_of p → t ≡ p.effect.table
      → (r ≡ reacted_of (sized_reaction table w q)) × (t ≡ (sized_reaction table w q).effect.table)
  reacted_of_size s p e = reacted_as p (e ∙ sym (reaction_of_size s))

  pub not_reacted : (length table ≡ table_size → ⊥) → (r : Told) (t : List ℕ) → r ≡ reacted_by silent (done_with 21 [] w) → t ≡ table
      → (r ≡ reacted_of (sized_reaction table w q)) × (t ≡ (sized_reaction table w q).effect.table)
  not_reacted n = reacted_as (reacting (refusing table w 21) silent) (sym (no_reaction n))
