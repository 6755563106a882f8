-- Entry after entry.
use mathlib.Core.Path.{◌≡◌, refl, sym, ap, ap₂, ◌∙◌}
use mathlib.Core.Bool.{true, false}
use mathlib.Core.List.{List, [], ◌∷◌, ◌++◌, append-nil, append_assoc}
use borrow.Rule.Slice.PartMut.{put_mid}
use Rattle.std.specs.List.{filter}
use Prim.Native.Nat.{ℕ, suc, ◌+◌, ◌*◌, ◌≤◌, ◌<◌}
use native.Mathlib.Numerals.{add-one}
use native.Mathlib.Omega.{arith}
use lib.IntN.{ℤ, pos, negsuc}
use lib.ListN.{length, take, drop, get_or, set, length-append, length-drop, length-take, drop_of_length-le}
use lib.Seq.{drop-cons, drop-drop, take-add, drop-append_seam}
use lib.Signed.{le_z}
use borrow.Author.Tests.{le-leb, leb-false}
use Rattle.lists.specs.Write.{overwritten, placed}
use Rattle.lists.proofs.Write.{overwritten_take, overwritten_parts}
use Rattle.table_items.specs.Items.{unsigned}
use Rattle.plan.specs.Planner.{GoalEntry, entries_from, entry_bytes, list_bytes}
use Rattle.plan.proofs.Packets.{list_length}
use Rattle.plan_writer.specs.Filling.{entries_at}

-- ---- the entries at an ID

-- the wanted goals, counted
pub wanted_counted : (goals : List ℤ) (id : ℕ) → length (filter (λ (goal : ℤ). le_z (pos 0) goal) goals) ≡ length (entries_from goals id)
unfolding entries_from
wanted_counted [] id = refl
wanted_counted (pos n ∷ goals) id = rw (le-leb 0 n (omega arith)) (ap suc (wanted_counted goals (suc id)))
wanted_counted (negsuc n ∷ goals) id = wanted_counted goals (suc id)

entries_wanted : (g : ℤ) (goals : List ℤ) (id : ℕ) → le_z (pos 0) g ≡ true → entries_from (g ∷ goals) id ≡ (id, unsigned g) ∷ entries_from goals (suc id)
unfolding entries_from
entries_wanted (pos n) goals id e = refl
entries_wanted (negsuc n) goals id e = let z : ◌≡◌ {A = ℕ} 0 1 = cc in absurd (omega arith)

entries_unwanted : (g : ℤ) (goals : List ℤ) (id : ℕ) → le_z (pos 0) g ≡ false → entries_from (g ∷ goals) id ≡ entries_from goals (suc id)
unfolding entries_from
entries_unwanted (pos n) goals id e = absurd (omega (arith, leb-false 0 n e))
entries_unwanted (negsuc n) goals id e = refl

module _ (goals : List ℤ) (id : ℕ) where
  module _ (h : id < length goals) where
    pub at_wanted : le_z (pos 0) (get_or goals id (pos 0)) ≡ true → entries_at goals id ≡ (id, unsigned (get_or goals id (pos 0))) ∷ entries_at goals (id + 1)
    at_wanted e =
        rw (add-one)
        (ap (λ (l : List ℤ). entries_from l id) (drop-cons goals id (pos 0) h) ∙ entries_wanted (get_or goals id (pos 0)) (drop (suc id) goals) id e)

    pub at_unwanted : le_z (pos 0) (get_or goals id (pos 0)) ≡ false → entries_at goals id ≡ entries_at goals (id + 1)
    at_unwanted e =
        rw (add-one)
        (ap (λ (l : List ℤ). entries_from l id) (drop-cons goals id (pos 0) h) ∙ entries_unwanted (get_or goals id (pos 0)) (drop (suc id) goals) id e)

  pub at_end : length goals ≤ id → entries_at goals id ≡ []
  unfolding entries_from
  at_end h = ap (λ (l : List ℤ). entries_from l id) (drop_of_length-le goals h)

-- ---- writing

-- the next part right behind what was written
pub placed_next : (old x y : List ℕ) → placed (overwritten old x) (length x) y ≡ overwritten old (x ++ y)
placed_next old x y =
    ap₂ (λ (a b : List ℕ). a ++ overwritten b y) (overwritten_take old x) (drop-append_seam x (drop (length x) old))
    ∙ overwritten_parts old x y

-- a byte at the start, and four behind it
pub entry_placed : (out bytes : List ℕ) (id : ℕ) → 5 ≤ length out → length bytes ≡ 4 → put_mid 1 4 (set out 0 id) bytes ≡ overwritten out (id ∷ bytes)
entry_placed [] bytes id h e = absurd (omega arith)
entry_placed (x ∷ out) bytes id h e = rw e

list_append : (es fs : List GoalEntry) → list_bytes (es ++ fs) ≡ list_bytes es ++ list_bytes fs
unfolding list_bytes
list_append [] fs = refl
list_append (e ∷ es) fs =
    ap (λ (l : List ℕ). entry_bytes e ++ l) (list_append es fs) ∙ sym (append_assoc (entry_bytes e) (list_bytes es) (list_bytes fs))

module _ (goals : List ℤ) (from k : ℕ) (old : List ℕ) where
  abbrev entries : List GoalEntry
  entries = entries_at goals from

  -- i entries have been written
  pub record Filling (out : List ℕ) (id i : ℕ) : Type 0 where
    pub some : i ≤ k
    pub left : entries_at goals id ≡ drop i entries
    pub holds : out ≡ overwritten old (list_bytes (take i entries))

  pub filling_start : Filling old from 0
  unfolding list_bytes
  filling_start = record { some = omega arith; left = refl; holds = refl }

  module _ (out : List ℕ) (id i : ℕ) (f : Filling out id i) where
    count_taken : k ≤ length entries → length (list_bytes (take i entries)) ≡ 5 * i
    count_taken h = let s = f.some in list_length (take i entries) ∙ simp length-take (omega arith)

    pub filling_length : k ≤ length entries → 5 * k ≤ length old → length out ≡ length old
    filling_length h q =
        let s = f.some in
        let n = count_taken h in
        ap length f.holds ∙ length-append (list_bytes (take i entries)) (drop (length (list_bytes (take i entries))) old)
        ∙ omega (arith, length-drop (length (list_bytes (take i entries))) old)

    pub filling_skip : id < length goals → le_z (pos 0) (get_or goals id (pos 0)) ≡ false → Filling out (id + 1) i
    filling_skip h e = record { some = f.some; left = sym (at_unwanted goals id h e) ∙ f.left; holds = f.holds }

    pub filling_next : (new : List ℕ) → k ≤ length entries → i < k → id < length goals → le_z (pos 0) (get_or goals id (pos 0)) ≡ true
        → new ≡ placed out (5 * i) (entry_bytes (id, unsigned (get_or goals id (pos 0)))) → Filling new (id + 1) (i + 1)
    unfolding list_bytes
    filling_next new h l q e p =
        let x : GoalEntry = (id, unsigned (get_or goals id (pos 0))) in
        let d : drop i entries ≡ x ∷ entries_at goals (id + 1) = sym f.left ∙ at_wanted goals id q e in
        let t : take (i + 1) entries ≡ take i entries ++ (x ∷ []) =
        take-add i 1 entries ∙ ap (λ (l : List GoalEntry). take i entries ++ take 1 l) d in
        let b : list_bytes (take (i + 1) entries) ≡ list_bytes (take i entries) ++ entry_bytes x =
        ap list_bytes t ∙ list_append (take i entries) (x ∷ []) ∙ ap (λ (l : List ℕ). list_bytes (take i entries) ++ l) (append-nil (entry_bytes x)) in
        record {
          some = omega arith;
          left = sym (ap (drop 1) d) ∙ drop-drop 1 i entries;
          holds =
              p ∙ ap₂ (λ (o : List ℕ) (n : ℕ). placed o n (entry_bytes x)) f.holds (sym (count_taken h))
              ∙ placed_next old (list_bytes (take i entries)) (entry_bytes x) ∙ ap (overwritten old) (sym b);
        }
