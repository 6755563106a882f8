-- The registers that a run of bytes touches, and a walk over them.
use mathlib.Core.Path.{◌≡◌, refl, sym, ap, ◌∙◌}
use mathlib.Core.Bool.{Bool, true, false, not, ◌&&◌, ◌||◌, or-true, and-true, and-false, false≢true}
use mathlib.Core.List.{List, [], ◌∷◌}
use mathlib.Core.Logic.{◌⊎◌, inl, inr, ⊎_elim}
use Prim.Native.Nat.{ℕ, zero, suc, ◌+◌, ◌-◌, ◌≤◌, ◌<◌}
use native.Mathlib.Omega.{arith}
use lib.Dec.{ltb, eqb}
use lib.ListN.{length, get_or}
use borrow.Author.Tests.{leb-true, ltb-true, ltb-false, eqb-true, eqb-false, lt-ltb, le-leb, lt-leb}
use Rattle.lists.proofs.Bools.{and_left, and_right}
use Rattle.table_registers.specs.Registers.{Register, registers, end_of, permits}
use Rattle.table_registers.proofs.Rows.{no_register, count, nth, place, place_inside, starts, ends, nth_some, nth_place}
use Rattle.table_rules.specs.Rules.{touches, every_touched}
use Rattle.table_rules.specs.Stages.{whole}

module _ (test : Register → Bool) where
  -- what the test of all says of one
  pub each : (a n : ℕ) (rs : List Register) (j : ℕ) → j < length rs → every_touched a n test rs ≡ true
      → (not (touches a n (get_or rs j no_register)) || test (get_or rs j no_register)) ≡ true
  unfolding every_touched
  each a n [] j h e = absurd (omega arith)
  each a n (r ∷ rs) zero h e = and_left (not (touches a n r) || test r) (every_touched a n test rs) e
  each a n (r ∷ rs) (suc j) h e =
      each a n rs j (omega arith) (and_right (not (touches a n r) || test r) (every_touched a n test rs) e)

  none_touched : (a n : ℕ) (rs : List Register) → ((j : ℕ) → j < length rs → touches a n (get_or rs j no_register) ≡ false)
      → every_touched a n test rs ≡ true
  unfolding every_touched
  none_touched a n [] f = refl
  none_touched a n (r ∷ rs) f = rw (f 0 (omega arith), none_touched a n rs (λ j h. f (suc j) (omega arith)))

  -- two runs that touch the same registers, but for some that pass the test
  moved : (a n b m : ℕ) (rs : List Register)
      → ((j : ℕ) → j < length rs → (touches a n (get_or rs j no_register) ≡ touches b m (get_or rs j no_register)) ⊎ (test (get_or rs j no_register) ≡ true))
      → every_touched a n test rs ≡ every_touched b m test rs
  unfolding every_touched
  moved a n b m [] f = refl
  moved a n b m (r ∷ rs) f =
      rw (moved a n b m rs (λ j h. f (suc j) (omega arith)))
      (ap (λ (t : Bool). t && every_touched b m test rs)
      (⊎_elim (λ e. ap (λ (t : Bool). not t || test r) e) (λ e. simp (e, or-true)) (f 0 (omega arith))))

module _ (i j : ℕ) (l : i < count) (k : j < count) (x : ℕ) where
  -- no two registers have a byte in common
  alone : (nth i).address ≤ x → x < end_of (nth i) → (nth j).address ≤ x → x < end_of (nth j) → i ≡ j
  alone h₁ h₂ h₃ h₄ = sym (nth_place i l x h₁ h₂) ∙ nth_place j k x h₃ h₄

-- no register has bytes before b and from b on
pub Border : ℕ → Type 0
Border b = (j : ℕ) → j < count → touches b 0 (nth j) ≡ false

pub border_done : (test : Register → Bool) (b : ℕ) → Border b → every_touched b 0 test registers ≡ true
unfolding Border
border_done test b f = none_touched test b 0 registers f

-- ---- one step of a walk by registers: from a byte that has one to the end of that register

module _ (a : ℕ) (defined : 1 ≤ permits a) where
  abbrev own : Register
  own = nth (place a)

  pub border : Border (end_of own)
  unfolding Border
  border j h = by_start (ltb (nth j).address (end_of own + 0)) refl
    where
      by_end : (b : Bool) → ltb (end_of own) (end_of (nth j)) ≡ b → (nth j).address < end_of own → ltb (end_of own) (end_of (nth j)) ≡ false
      by_end false e s = e
      by_end true e s =
          let k = ltb-true (end_of own) (end_of (nth j)) e in
          let p = nth_some (place a) (place_inside a defined) in
          let same = alone (place a) j (place_inside a defined) h (end_of own - 1) (omega arith) (omega arith) (omega arith) (omega arith) in
          let z : end_of own ≡ end_of (nth j) = ap (λ (i : ℕ). end_of (nth i)) same in
          absurd (omega arith)

      by_start : (b : Bool) → ltb (nth j).address (end_of own + 0) ≡ b → touches (end_of own) 0 (nth j) ≡ false
      by_start false e = ap (λ (t : Bool). t && ltb (end_of own) (end_of (nth j))) e
      by_start true e =
          let s = ltb-true (nth j).address (end_of own + 0) e in
          ap (λ (t : Bool). ltb (nth j).address (end_of own + 0) && t) (by_end (ltb (end_of own) (end_of (nth j))) refl (omega arith))
          ∙ and-false (ltb (nth j).address (end_of own + 0))

  -- another register ends before a or after this one
  same_side : (j : ℕ) → j < count → (place a ≡ j → ⊥) → ltb a (end_of (nth j)) ≡ ltb (end_of own) (end_of (nth j))
  same_side j h other = by_end (ltb a (end_of (nth j))) refl (ltb (end_of own) (end_of (nth j))) refl
    where
      by_end : (b : Bool) → ltb a (end_of (nth j)) ≡ b → (d : Bool) → ltb (end_of own) (end_of (nth j)) ≡ d
          → ltb a (end_of (nth j)) ≡ ltb (end_of own) (end_of (nth j))
      by_end true e true f = e ∙ sym f
      by_end false e false f = e ∙ sym f
      by_end false e true f =
          let l = ltb-false a (end_of (nth j)) e in
          let k = ltb-true (end_of own) (end_of (nth j)) f in
          let n = ends a defined in
          absurd (omega arith)
      by_end true e false f =
          let l = ltb-true a (end_of (nth j)) e in
          let k = ltb-false (end_of own) (end_of (nth j)) f in
          let s = starts a defined in
          let p = nth_some j h in
          absurd (other (alone (place a) j (place_inside a defined) h (end_of (nth j) - 1) (omega arith) (omega arith) (omega arith) (omega arith)))

  module _ (test : Register → Bool) (end : ℕ) (before : a < end) where
    pub walk_failed : test own ≡ false → every_touched a (end - a) test registers ≡ false
    walk_failed f = by_all (every_touched a (end - a) test registers) refl
      where
        by_all : (b : Bool) → every_touched a (end - a) test registers ≡ b → every_touched a (end - a) test registers ≡ false
        by_all false e = e
        by_all true e =
            let t = each test a (end - a) registers (place a) (place_inside a defined) e in
            let s = starts a defined in
            absurd (false≢true (rw (
              lt-ltb own.address (a + (end - a)) (omega arith),
              lt-ltb a (end_of own) (ends a defined),
              f,
            ) at t))

    pub walk_passed : test own ≡ true → end_of own ≤ end
        → every_touched (end_of own) (end - end_of own) test registers ≡ every_touched a (end - a) test registers
    walk_passed t fits = sym (moved test a (end - a) (end_of own) (end - end_of own) registers (λ j h. by_place (eqb (place a) j) j refl h))
      where
        by_place : (b : Bool) (j : ℕ) → eqb (place a) j ≡ b → j < count
            → (touches a (end - a) (nth j) ≡ touches (end_of own) (end - end_of own) (nth j)) ⊎ (test (nth j) ≡ true)
        by_place true j e h = inr (ap (λ (i : ℕ). test (nth i)) (sym (eqb-true (place a) j e)) ∙ t)
        by_place false j e h =
            let m : a + (end - a) ≡ end_of own + (end - end_of own) = omega arith in
            inl (rw (m, same_side j h (eqb-false (place a) j e)))

    -- the test of this register, and then of those after it
    pub walk_next : (ranged good : Bool) → ranged ≡ test own → end_of own ≤ end
        → ((good && ranged) && every_touched (end_of own) (end - end_of own) test registers) ≡ (good && every_touched a (end - a) test registers)
    walk_next true good e fits = rw (and-true good, walk_passed (sym e) fits)
    walk_next false good e fits = rw (and-false good, walk_failed (sym e), and-false good)

-- ---- an item of four bytes of which the run has all or none

module _ (address n a : ℕ) (w : whole address n a ≡ true) where
  pub whole_before : a < address → a + 4 ≤ address
  whole_before h = by_test (ltb address (a + 4)) refl
    where
      by_test : (b : Bool) → ltb address (a + 4) ≡ b → a + 4 ≤ address
      by_test false e = ltb-false address (a + 4) e
      by_test true e = absurd (false≢true (rw (lt-ltb a (address + n) (omega arith), e, lt-leb address a h) at w))

  pub whole_inside : address ≤ a → a < address + n → a + 4 ≤ address + n
  whole_inside h k =
      leb-true (a + 4) (address + n)
      (rw (lt-ltb a (address + n) k, lt-ltb address (a + 4) (omega arith), le-leb address a h) at w)
