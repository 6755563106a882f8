-- The search in a list, round by round. Which IDs have passed stands in a table of marks.
use Rattle.std.specs.Prelude.{None, Option, Some}
use mathlib.Core.Path.{◌≡◌, refl, sym, ap, ◌∙◌}
use mathlib.Core.Bool.{Bool, true, false, not, cond, ◌&&◌, ◌||◌}
use mathlib.Core.List.{List, [], ◌∷◌}
use Prim.Native.Nat.{ℕ, zero, suc, ◌+◌, ◌-◌, ◌≤◌, ◌<◌}
use native.Mathlib.Omega.{arith}
use lib.Dec.{leb, eqb}
use lib.ListN.{length, take, drop, get_or, set, replicate, length-set, length-drop, get_or-replicate}
use lib.Seq.{take_all, get_or-set_same, get_or-set_other}
use borrow.Author.Tests.{leb-true, leb-false, le-leb, lt-leb, eqb-true, eqb-false, eq-eqb, ne_eqb, not-true}
use Rattle.lists.proofs.Bools.{and_left, and_right}
use Rattle.device_parameters.specs.Entries.{EntryShape, entry_at, size_here, occurs, entry_good, search_from, search}
use Rattle.device_parameters.specs.Parameters.{word_at, plain, entry_of, sync_search}
use Rattle.device_parameters.specs.declared.EntryKind.{EntryKind}
use Rattle.device_parameters.specs.declared.EntryKind.TheVariants.{Plain, BulkRead, BulkWrite}
use Rattle.device_parameters.specs.declared.OwnEntry.{OwnEntry}
use Rattle.device_parameters.proofs.Apart.{Apart, none_apart, apart_next, apart_few}

-- ---- what `entry_size` has told of the entry at `at`

pub some_bytes : (k : EntryKind) (rest : List ℕ) → 1 ≤ (entry_of k).size rest
some_bytes (Plain n) rest = omega arith
some_bytes BulkRead rest = omega arith
some_bytes BulkWrite rest = omega arith

-- the entry is allowed, and all of it is there
abbrev pub whole_here : EntryShape → List ℕ → Bool
whole_here e rest = e.allowed rest && leb (e.size rest) (length rest)

module _ (k : EntryKind) (params : List ℕ) (at : ℕ) (r : Option ℕ) (h : at ≤ length params)
    (stated : r ≡ size_here (entry_of k) (take (length params - at) (drop at params))) where
  stated_here : r ≡ size_here (entry_of k) (drop at params)
  stated_here = stated ∙ ap (size_here (entry_of k)) (take_all (length params - at) (drop at params) (simp length-drop (omega arith)))

  pub not_good : r ≡ None → whole_here (entry_of k) (drop at params) ≡ false
  not_good z = by_test (whole_here (entry_of k) (drop at params)) stated_here
    where
      by_test : (b : Bool) → r ≡ cond b (Some ((entry_of k).size (drop at params))) None → b ≡ false
      by_test false e = refl
      by_test true e = let n : Some ((entry_of k).size (drop at params)) ≡ None = sym e ∙ z in cc

  module _ (size : ℕ) (n : r ≡ Some size) where
    is_good : whole_here (entry_of k) (drop at params) ≡ true
    is_good = by_test (whole_here (entry_of k) (drop at params)) stated_here
      where
        by_test : (b : Bool) → r ≡ cond b (Some ((entry_of k).size (drop at params))) None → b ≡ true
        by_test false e = let z : Some size ≡ None = sym n ∙ e in cc
        by_test true e = refl

    pub allowed : (entry_of k).allowed (drop at params) ≡ true
    allowed = and_left ((entry_of k).allowed (drop at params)) _ is_good

    pub fits_here : at + (entry_of k).size (drop at params) ≤ length params
    fits_here =
        let l = leb-true ((entry_of k).size (drop at params)) (length (drop at params)) (and_right ((entry_of k).allowed (drop at params)) _ is_good) in
        let d = length-drop at params in
        omega arith

    pub size_is : size ≡ (entry_of k).size (drop at params)
    size_is = let e : Some size ≡ Some ((entry_of k).size (drop at params)) = sym n ∙ stated_here ∙ rw is_good in cc

-- ---- the loop

-- an ID that has passed is marked 1, and the own one 2 before it has
abbrev mark_of : ℕ → ℕ → List ℕ → ℕ
mark_of own k passed = cond (occurs k passed) 1 (cond (eqb k own) 2 0)

-- the own entry, by the mark of the own ID and where it stood
abbrev pub own_entry : ℕ → ℕ → ℕ → Option OwnEntry
own_entry mark slot at = cond (eqb mark 2) None (entry_at slot at)

module _ (e : EntryShape) (own : ℕ) (params : List ℕ) (from : ℕ) where
  -- the entries before `at` have these IDs, and the rest of the search decides
  pub record Searching (seen : List ℕ) (at slot : ℕ) (found : Option OwnEntry) : Type 0 where
    pub passed : List ℕ
    pub steps : ℕ
    pub enough : length params ≤ at + steps
    pub slots : slot ≡ length passed
    pub few : slot ≤ at
    pub sized : length seen ≡ 256
    pub marked : (k : ℕ) → k < 256 → get_or seen k 0 ≡ mark_of own k passed
    pub same : search_from e own params steps at passed found ≡ search e own params from

  searching_start : own < 256 → Searching (set (replicate 256 0) own 2) from 0 None
  unfolding occurs
  searching_start h =
      record {
        passed = [];
        steps = length params;
        enough = omega arith;
        slots = refl;
        few = omega arith;
        sized = simp length-set refl;
        marked = mark;
        same = refl;
      }
    where
      mark : (k : ℕ) → k < 256 → get_or {A = ℕ} (set (replicate 256 0) own 2) k 0 ≡ cond (eqb k own) 2 0
      mark k l = by_id (eqb k own) refl
        where
          by_id : (b : Bool) → eqb k own ≡ b → get_or {A = ℕ} (set (replicate 256 0) own 2) k 0 ≡ cond b 2 0
          by_id true e = rw (eqb-true k own e) (get_or-set_same (replicate 256 0) own 2 0 h)
          by_id false e = get_or-set_other (replicate 256 0) own k 2 0 (eqb-false k own e) ∙ get_or-replicate 256 k 0 0 l

  pub none_found : own < 256 → Searching (set (replicate 256 0) own 2) from 0 (own_entry (get_or {A = ℕ} (set (replicate 256 0) own 2) own 0) 0 0)
  none_found h = rw (get_or-set_same {A = ℕ} (replicate 256 0) own 2 0 h) (searching_start h)

  turn : (steps at : ℕ) (passed : List ℕ) (found : Option OwnEntry) → at < length params → 0 < steps
      → search_from e own params steps at passed found
      ≡ cond (entry_good e params at passed)
      (search_from e own params (steps - 1) (at + e.size (drop at params)) (get_or params at 0 ∷ passed)
      (cond (eqb (get_or params at 0) own) (entry_at (length passed) at) found))
      None
  unfolding search_from
  turn zero at passed found h s = absurd (omega arith)
  turn (suc steps) at passed found h s =
      let e : suc steps - 1 ≡ steps = omega arith in
      rw (lt-leb (length params) at h, e)

  module _ (seen : List ℕ) (at slot : ℕ) (found : Option OwnEntry) (r : Searching seen at slot found) (h : at < length params) where
    goes : search e own params from
        ≡ cond (entry_good e params at r.passed)
        (search_from e own params (r.steps - 1) (at + e.size (drop at params)) (get_or params at 0 ∷ r.passed)
        (cond (eqb (get_or params at 0) own) (entry_at (length r.passed) at) found))
        None
    goes = let e = r.enough in sym r.same ∙ turn r.steps at r.passed found h (omega arith)

    barred : e.allowed (drop at params) ≡ false → None ≡ search e own params from
    barred b = sym (goes ∙ rw b)

    cut_short : e.allowed (drop at params) ≡ true → length params < at + e.size (drop at params) → None ≡ search e own params from
    cut_short ok l = sym (goes ∙ rw (ok, lt-leb (at + e.size (drop at params)) (length params) l))

    pub not_whole : whole_here e (drop at params) ≡ false → None ≡ search e own params from
    not_whole f = by_test (e.allowed (drop at params)) refl (leb (e.size (drop at params)) (length (drop at params))) refl
      where
        by_test : (a : Bool) → e.allowed (drop at params) ≡ a → (b : Bool) → leb (e.size (drop at params)) (length (drop at params)) ≡ b
            → None ≡ search e own params from
        by_test false p b q = barred p
        by_test true p false q =
            let l = leb-false (e.size (drop at params)) (length (drop at params)) q in
            let d = length-drop at params in
            cut_short p (omega arith)
        by_test true p true q = let z : true ≡ false = sym (rw (p, q)) ∙ f in let y : ◌≡◌ {A = ℕ} 0 1 = cc in absurd (omega arith)

    module _ (ok : e.allowed (drop at params) ≡ true) where
      module _ (whole : at + e.size (drop at params) ≤ length params) where
        fits : leb (at + e.size (drop at params)) (length params) ≡ true
        fits = le-leb (at + e.size (drop at params)) (length params) whole

        pub no_id : 252 < get_or params at 0 → None ≡ search e own params from
        no_id l = sym (goes ∙ rw (ok, fits, lt-leb (get_or params at 0) 252 l))

        module _ (known : get_or params at 0 ≤ 252) where
          occurred : (b : Bool) → occurs (get_or params at 0) r.passed ≡ b
              → get_or seen (get_or params at 0) 0 ≡ cond b 1 (cond (eqb (get_or params at 0) own) 2 0)
          occurred b e = r.marked (get_or params at 0) (omega arith) ∙ rw e

          -- a mark that is not that of a passed ID
          fresh_mark : (b : Bool) → ◌≡◌ {A = ℕ} (cond b 2 0) 1 → ⊥
          fresh_mark true z = omega arith
          fresh_mark false z = omega arith

          pub again : get_or seen (get_or params at 0) 0 ≡ 1 → None ≡ search e own params from
          again n = by_mark (occurs (get_or params at 0) r.passed) refl
            where
              by_mark : (b : Bool) → occurs (get_or params at 0) r.passed ≡ b → None ≡ search e own params from
              by_mark false m = absurd (fresh_mark (eqb (get_or params at 0) own) (sym (occurred false m) ∙ n))
              by_mark true m = sym (goes ∙ simp (ok, fits, le-leb (get_or params at 0) 252 known, m))

          module _ (new : get_or seen (get_or params at 0) 0 ≡ 1 → ⊥) (some : 1 ≤ e.size (drop at params)) where
            not_passed : occurs (get_or params at 0) r.passed ≡ false
            not_passed = by_mark (occurs (get_or params at 0) r.passed) refl
              where
                by_mark : (b : Bool) → occurs (get_or params at 0) r.passed ≡ b → b ≡ false
                by_mark false e = refl
                by_mark true e = absurd (new (occurred true e))

            mark : (k : ℕ) → k < 256 → get_or (set seen (get_or params at 0) 1) k 0 ≡ cond (eqb k (get_or params at 0) || occurs k r.passed) 1 (cond (eqb k own) 2 0)
            mark k l = by_id (eqb k (get_or params at 0)) refl
              where
                by_id : (b : Bool) → eqb k (get_or params at 0) ≡ b
                    → get_or (set seen (get_or params at 0) 1) k 0 ≡ cond (eqb k (get_or params at 0) || occurs k r.passed) 1 (cond (eqb k own) 2 0)
                by_id true e =
                    let s = r.sized in
                    let i = eqb-true k (get_or params at 0) e in
                    rw (e) (rw (i) (get_or-set_same seen (get_or params at 0) 1 0 (omega arith)))
                by_id false e = rw (e) (get_or-set_other seen (get_or params at 0) k 1 0 (eqb-false k (get_or params at 0) e) ∙ r.marked k l)

            next : Searching (set seen (get_or params at 0) 1) (at + e.size (drop at params)) (slot + 1) (cond (eqb (get_or params at 0) own) (entry_at slot at) found)
            unfolding occurs
            next =
                let k = r.enough in
                let f = r.few in
                let s = r.slots in
                record {
                  passed = get_or params at 0 ∷ r.passed;
                  steps = r.steps - 1;
                  enough = omega arith;
                  slots = omega arith;
                  few = omega arith;
                  sized = simp length-set r.sized;
                  marked = mark;
                  same =
                      ap (λ (n : ℕ). search_from e own params (r.steps - 1) (at + e.size (drop at params)) (get_or params at 0 ∷ r.passed) (cond (eqb (get_or params at 0) own) (entry_at n at) found)) s
                      ∙ sym (goes ∙ simp (ok, fits, le-leb (get_or params at 0) 252 known, not_passed));
                }

            -- where the mark is not 0 the ID is the own one, and otherwise another
            pub own_next : (get_or seen (get_or params at 0) 0 ≡ 0 → ⊥)
                → Searching (set seen (get_or params at 0) 1) (at + e.size (drop at params)) (slot + 1)
                (own_entry (get_or (set seen (get_or params at 0) 1) own 0) slot at)
            own_next n =
                let s = r.sized in
                let i = own_id_lem (eqb (get_or params at 0) own) refl in
                let m : get_or (set seen (get_or params at 0) 1) own 0 ≡ 1 = rw (sym i) (get_or-set_same seen (get_or params at 0) 1 0 (omega arith)) in
                rw m (rw (eq-eqb (get_or params at 0) own i) at next)
              where
                own_id_lem : (b : Bool) → eqb (get_or params at 0) own ≡ b → get_or params at 0 ≡ own
                own_id_lem true e = eqb-true (get_or params at 0) own e
                own_id_lem false e = absurd (n (occurred false not_passed ∙ rw e))

            pub other_next : get_or seen (get_or params at 0) 0 ≡ 0 → (own-slot own_at : ℕ) → found ≡ own_entry (get_or seen own 0) own-slot own_at
                → Searching (set seen (get_or params at 0) 1) (at + e.size (drop at params)) (slot + 1)
                (own_entry (get_or (set seen (get_or params at 0) 1) own 0) own-slot own_at)
            other_next z own-slot own_at f =
                rw (get_or-set_other seen (get_or params at 0) own 1 0 (λ y. other (sym y))) (rw (ne_eqb (get_or params at 0) own other, f) at next)
              where
                other : get_or params at 0 ≡ own → ⊥
                other i =
                    let m : get_or seen (get_or params at 0) 0 ≡ 2 = occurred false not_passed ∙ rw (eq-eqb (get_or params at 0) own i) in
                    omega arith

  pub searched : (seen : List ℕ) (at slot : ℕ) (found : Option OwnEntry) → Searching seen at slot found → length params ≤ at → found ≡ search e own params from
  unfolding search_from
  searched seen at slot found r h = by_steps r.steps r.same
    where
      by_steps : (steps : ℕ) → search_from e own params steps at r.passed found ≡ search e own params from
          → found ≡ search e own params from
      by_steps zero s = sym (rw (le-leb (length params) at h)) ∙ s
      by_steps (suc steps) s = sym (rw (le-leb (length params) at h)) ∙ s

  -- a list that begins at the end or past it has no entry
  pub past_end : length params ≤ from → search e own params from ≡ None
  unfolding search_from
  past_end h = by_steps (length params)
    where
      by_steps : (steps : ℕ) → search_from e own params steps from [] None ≡ None
      by_steps zero = rw (le-leb (length params) from h)
      by_steps (suc steps) = rw (le-leb (length params) from h)

  -- ---- an entry that was found is allowed and whole, and stands behind 252 others at the most

  pub record Whole (slot at : ℕ) : Type 0 where
    pub ok : e.allowed (drop at params) ≡ true
    pub fits : at + e.size (drop at params) ≤ length params
    pub early : slot ≤ 252

  AllWhole : Option OwnEntry → Type 0
  AllWhole found = (slot at : ℕ) → found ≡ entry_at slot at → Whole slot at

  nothing_whole : AllWhole None
  unfolding AllWhole
  nothing_whole slot at e = let z : ◌≡◌ {A = ℕ} 0 1 = cc in absurd (omega arith)

  pick_whole : (b : Bool) (x y : Option OwnEntry) → (b ≡ true → AllWhole x) → (b ≡ false → AllWhole y) → AllWhole (cond b x y)
  pick_whole true x y f g = f refl
  pick_whole false x y f g = g refl

  here_whole : (n at : ℕ) → Whole n at → AllWhole (entry_at n at)
  unfolding AllWhole
  here_whole n at w slot k e =
      let o : ◌≡◌ {A = OwnEntry} (record { slot = n; offset = at }) (record { slot = slot; offset = k }) = cc in
      let y : n ≡ slot = ap (λ (x : OwnEntry). x.slot) o in
      let z : at ≡ k = ap (λ (x : OwnEntry). x.offset) o in
      rw (y, z) at w

  module _ (at : ℕ) (passed : List ℕ) (g : entry_good e params at passed ≡ true) where
    among : (leb (get_or params at 0) 252 && not (occurs (get_or params at 0) passed)) ≡ true
    among = and_right (leb (at + e.size (drop at params)) (length params)) _ (and_right (e.allowed (drop at params)) _ g)

    good_apart : Apart passed → Apart (get_or params at 0 ∷ passed)
    good_apart d =
        apart_next (get_or params at 0) passed d (leb-true (get_or params at 0) 252 (and_left _ _ among))
        (not-true (occurs (get_or params at 0) passed) (and_right (leb (get_or params at 0) 252) _ among))

    good_whole : Apart passed → Whole (length passed) at
    good_whole d =
        record {
          ok = and_left (e.allowed (drop at params)) _ g;
          fits = leb-true (at + e.size (drop at params)) (length params) (and_left _ _ (and_right (e.allowed (drop at params)) _ g));
          early = let n = apart_few (get_or params at 0 ∷ passed) (good_apart d) in omega arith;
        }

  from_whole : (steps at : ℕ) (passed : List ℕ) (found : Option OwnEntry) → Apart passed → AllWhole found
      → AllWhole (search_from e own params steps at passed found)
  unfolding search_from
  from_whole zero at passed found d f = pick_whole (leb (length params) at) found None (λ _. f) (λ _. nothing_whole)
  from_whole (suc steps) at passed found d f =
      pick_whole (leb (length params) at) found _ (λ _. f) (λ _. pick_whole (entry_good e params at passed) _ None (λ g. from_whole steps (at + e.size (drop at params)) (get_or params at 0 ∷ passed) _ (good_apart at passed g d) (pick_whole (eqb (get_or params at 0) own) (entry_at (length passed) at) found (λ _. here_whole (length passed) at (good_whole at passed g d)) (λ _. f))) (λ _. nothing_whole))

  pub found_whole : (slot at : ℕ) → search e own params from ≡ entry_at slot at → Whole slot at
  unfolding AllWhole
  found_whole slot at s = from_whole (length params) from [] None none_apart nothing_whole slot at s

module _ (size own : ℕ) (params : List ℕ) (slot at : ℕ) (e : sync_search size own params ≡ entry_at slot at) where
  sync_found : Whole (plain size) own params 4 slot at
  unfolding AllWhole
  sync_found =
      pick_whole (plain size) own params 4 (eqb (word_at params 2) 0) None (search (plain size) own params 4)
      (λ _. nothing_whole (plain size) own params 4) (λ _ s k f. found_whole (plain size) own params 4 s k f) slot at e

  pub sync_whole : at + size ≤ length params
  sync_whole = sync_found.fits

  pub sync_early : slot ≤ 252
  sync_early = sync_found.early
