-- A list that devices carry out, entry by entry, for all IDs at once: what each finds in it is the entry with its ID.
use Rattle.std.specs.Prelude.{None, Option}
use mathlib.Core.Path.{◌≡◌, refl, sym, subst, ◌∙◌}
use mathlib.Core.Bool.{Bool, true, false, cond, not, ◌||◌, or-true}
use mathlib.Core.List.{List, [], ◌∷◌}
use Prim.Native.Nat.{ℕ, zero, suc, ◌+◌, ◌≤◌, ◌<◌}
use native.Mathlib.Omega.{arith}
use lib.Dec.{leb, eqb}
use lib.ListN.{length, drop, get_or}
use borrow.Author.Tests.{leb-true, le-leb, lt-leb, eq-eqb, eqb-false, ne_eqb}
use Rattle.lists.proofs.Bools.{and_left, and_right, both_ways}
use Rattle.device_parameters.specs.Entries.{EntryShape, occurs, entry_good, search_from, search, entry_at}
use Rattle.device_parameters.specs.declared.OwnEntry.{OwnEntry}

module _ (e : EntryShape) (params : List ℕ) where
  -- the entries from `at` on are good to the end, where those before it have the IDs `passed`
  unfoldable pub list_good : ℕ → ℕ → List ℕ → Bool
  list_good zero at passed = leb (length params) at
  list_good (suc steps) at passed =
      cond (leb (length params) at) true
      (cond (entry_good e params at passed) (list_good steps (at + e.size (drop at params)) (get_or params at 0 ∷ passed)) false)

  -- else no device finds anything
  pub not_list : (own steps at : ℕ) (passed : List ℕ) (found : Option OwnEntry) → list_good steps at passed ≡ false
      → search_from e own params steps at passed found ≡ None
  unfolding list_good search_from
  not_list own zero at passed found g = rw g
  not_list own (suc steps) at passed found g =
      by_tests (leb (length params) at) (entry_good e params at passed) g
      (λ h. not_list own steps (at + e.size (drop at params)) (get_or params at 0 ∷ passed) _ h)
    where
      by_tests : (a b : Bool)
          → cond a true (cond b (list_good steps (at + e.size (drop at params)) (get_or params at 0 ∷ passed)) false) ≡ false
          → (list_good steps (at + e.size (drop at params)) (get_or params at 0 ∷ passed) ≡ false
          → search_from e own params steps (at + e.size (drop at params)) (get_or params at 0 ∷ passed) (cond (eqb (get_or params at 0) own) (entry_at (length passed) at) found) ≡ None)
          → cond a found (cond b (search_from e own params steps (at + e.size (drop at params)) (get_or params at 0 ∷ passed) (cond (eqb (get_or params at 0) own) (entry_at (length passed) at) found)) None) ≡ None
      by_tests true b h later = both_ways true refl h
      by_tests false true h later = later h
      by_tests false false h later = refl

  -- what an entry's test says
  pub record Good (at : ℕ) (passed : List ℕ) : Type 0 where
    pub fits : at + e.size (drop at params) ≤ length params
    pub known : get_or params at 0 ≤ 252
    pub new : occurs (get_or params at 0) passed ≡ false

  good : (at : ℕ) (passed : List ℕ) → entry_good e params at passed ≡ true → Good at passed
  good at passed g =
      let r = and_right (e.allowed (drop at params)) _ g in
      let s = and_right (leb (at + e.size (drop at params)) (length params)) _ r in
      record {
        fits = leb-true (at + e.size (drop at params)) (length params) (and_left _ _ r);
        known = leb-true (get_or params at 0) 252 (and_left _ _ s);
        new = by_mark (occurs (get_or params at 0) passed) (and_right (leb (get_or params at 0) 252) _ s);
      }
    where
      by_mark : (b : Bool) → not b ≡ true → b ≡ false
      by_mark false h = refl
      by_mark true h = both_ways true refl (sym h)

  -- the first of the entries that are left, and those behind it
  pub record First (steps at : ℕ) (passed : List ℕ) : Type 0 where
    pub left : ℕ
    pub is : steps ≡ suc left
    pub tested : entry_good e params at passed ≡ true
    pub rest : list_good left (at + e.size (drop at params)) (get_or params at 0 ∷ passed) ≡ true

  pub first : (steps at : ℕ) (passed : List ℕ) → at < length params → list_good steps at passed ≡ true → First steps at passed
  unfolding list_good
  first zero at passed h g = both_ways (leb (length params) at) g (lt-leb (length params) at h)
  first (suc steps) at passed h g = by_test (entry_good e params at passed) refl (rw (lt-leb (length params) at h) at g)
    where
      by_test : (b : Bool) → entry_good e params at passed ≡ b
          → cond b (list_good steps (at + e.size (drop at params)) (get_or params at 0 ∷ passed)) false ≡ true → First (suc steps) at passed
      by_test true t r = record { left = steps; is = refl; tested = t; rest = r }
      by_test false t r = both_ways false r refl

  -- one round of the search
  turn : (own steps left at : ℕ) (passed : List ℕ) (found : Option OwnEntry) → at < length params → steps ≡ suc left → entry_good e params at passed ≡ true
      → search_from e own params steps at passed found
      ≡ search_from e own params left (at + e.size (drop at params)) (get_or params at 0 ∷ passed) (cond (eqb (get_or params at 0) own) (entry_at (length passed) at) found)
  unfolding search_from
  turn own zero left at passed found h s g = absurd (omega arith)
  turn own (suc steps) left at passed found h s g =
      let k : steps ≡ left = omega arith in
      rw (lt-leb (length params) at h, g, k)

  -- a device whose entry has passed finds no other
  kept : (own steps at : ℕ) (passed : List ℕ) (found : Option OwnEntry) → occurs own passed ≡ true → list_good steps at passed ≡ true
      → search_from e own params steps at passed found ≡ found
  unfolding list_good search_from occurs
  kept own zero at passed found o g = rw g
  kept own (suc steps) at passed found o g =
      by_end (leb (length params) at) (entry_good e params at passed) refl g
      (λ r. kept own steps (at + e.size (drop at params)) (get_or params at 0 ∷ passed) found (rw (o) (or-true (eqb own (get_or params at 0)))) r)
    where
      other : entry_good e params at passed ≡ true → eqb (get_or params at 0) own ≡ false
      other t = ne_eqb (get_or params at 0) own (λ i. both_ways (occurs own passed) o (subst (λ (x : ℕ). occurs x passed ≡ false) i (good at passed t).new))

      by_end : (a b : Bool) → entry_good e params at passed ≡ b
          → cond a true (cond b (list_good steps (at + e.size (drop at params)) (get_or params at 0 ∷ passed)) false) ≡ true
          → (list_good steps (at + e.size (drop at params)) (get_or params at 0 ∷ passed) ≡ true
          → search_from e own params steps (at + e.size (drop at params)) (get_or params at 0 ∷ passed) found ≡ found)
          → cond a found (cond b (search_from e own params steps (at + e.size (drop at params)) (get_or params at 0 ∷ passed) (cond (eqb (get_or params at 0) own) (entry_at (length passed) at) found)) None) ≡ found
      by_end true b t g later = refl
      by_end false true t g later = rw (other t) (later g)
      by_end false false t g later = both_ways false g refl

  -- ---- a walk over the entries

  module _ (from : ℕ) where
    -- before `at` each device has found what `found` says, and the rest of the list decides
    pub record Walk (at : ℕ) (found : ℕ → Option OwnEntry) : Type 0 where
      pub passed : List ℕ
      pub steps : ℕ
      pub left_good : list_good steps at passed ≡ true
      pub same : (own : ℕ) → search e own params from ≡ search_from e own params steps at passed (found own)
      pub none_yet : (own : ℕ) → occurs own passed ≡ false → found own ≡ None

    pub walk_start : list_good (length params) from [] ≡ true → Walk from (λ own. None)
    walk_start g = record { passed = []; steps = length params; left_good = g; same = λ own. refl; none_yet = λ own h. refl }

    module _ (at : ℕ) (found : ℕ → Option OwnEntry) (w : Walk at found) (h : at < length params) where
      here : First w.steps at w.passed
      here = first w.steps at w.passed h w.left_good

      pub entry_good_lem : Good at w.passed
      entry_good_lem = good at w.passed here.tested

      abbrev pub found_next : ℕ → Option OwnEntry
      found_next own = cond (eqb (get_or params at 0) own) (entry_at (length w.passed) at) (found own)

      goes : (own : ℕ) → search e own params from
          ≡ search_from e own params here.left (at + e.size (drop at params)) (get_or params at 0 ∷ w.passed) (found_next own)
      goes own = w.same own ∙ turn own w.steps here.left at w.passed (found own) h here.is here.tested

      pub walk_next : Walk (at + e.size (drop at params)) found_next
      unfolding occurs
      walk_next =
          record {
            passed = get_or params at 0 ∷ w.passed;
            steps = here.left;
            left_good = here.rest;
            same = goes;
            none_yet = λ own n. by_id own (eqb own (get_or params at 0)) refl n;
          }
        where
          by_id : (own : ℕ) (b : Bool) → eqb own (get_or params at 0) ≡ b → (b || occurs own w.passed) ≡ false → found_next own ≡ None
          by_id own true i n = both_ways true refl n
          by_id own false i n = rw (ne_eqb (get_or params at 0) own (λ q. eqb-false own (get_or params at 0) i (sym q))) (w.none_yet own n)

      -- the device of this entry finds it
      pub found_here : search e (get_or params at 0) params from ≡ entry_at (length w.passed) at
      unfolding occurs
      found_here =
          goes (get_or params at 0)
          ∙ rw (eq-eqb (get_or params at 0) (get_or params at 0) refl)
          (kept (get_or params at 0) here.left (at + e.size (drop at params)) (get_or params at 0 ∷ w.passed) (entry_at (length w.passed) at)
          (rw (eq-eqb (get_or params at 0) (get_or params at 0) refl) refl) here.rest)

    pub walk_end : (at : ℕ) (found : ℕ → Option OwnEntry) → Walk at found → length params ≤ at → (own : ℕ) → search e own params from ≡ found own
    unfolding search_from
    walk_end at found w h own = w.same own ∙ by_steps w.steps
      where
        by_steps : (steps : ℕ) → search_from e own params steps at w.passed (found own) ≡ found own
        by_steps zero = rw (le-leb (length params) at h)
        by_steps (suc steps) = rw (le-leb (length params) at h)

    -- where any device finds its entry, the list is good
    pub any_found : (own slot at : ℕ) → search e own params from ≡ entry_at slot at → list_good (length params) from [] ≡ true
    any_found own slot at s = by_list (list_good (length params) from []) refl
      where
        by_list : (b : Bool) → list_good (length params) from [] ≡ b → b ≡ true
        by_list true g = refl
        by_list false g = let n = not_list own (length params) from [] None g in let z : ◌≡◌ {A = ℕ} 0 1 = cc in absurd (omega arith)
