-- What the bytes permit: a run of bytes, register by register, and how long a run can be.
use mathlib.Core.Path.{◌≡◌, refl, sym, ◌∙◌}
use mathlib.Core.Bool.{Bool, true, false, not, ◌&&◌}
use Prim.Native.Nat.{ℕ, zero, suc, ◌+◌, ◌-◌, ◌≤◌, ◌<◌}
use native.Mathlib.Nat.{add-zero}
use native.Mathlib.Numerals.{add-one, sub-one}
use native.Mathlib.Omega.{arith}
use lib.Dec.{T_not, leb, ltb}
use borrow.Author.Tests.{le-leb, lt-leb, leb-true, leb-false, ltb-true, ltb-false}
use Rattle.lists.proofs.Bools.{and_left, and_right}
use Rattle.lists.proofs.Below.{below}
use Rattle.table_registers.specs.Registers.{registers, table_size, end_of, permits_by, permits, every_byte}
use Rattle.table_registers.proofs.Rows.{true_holds, nth, place, none_permits, none_past, same_permits}

-- past the table nothing is permitted
past : (a : ℕ) → table_size ≤ a → permits a ≡ 0
past a h = none_permits a (none_past a h)

module _ (least a : ℕ) where
  pub every_turn : (n : ℕ) → 0 < n → every_byte least a n ≡ (leb least (permits a) && every_byte least (a + 1) (n - 1))
  unfolding every_byte
  every_turn zero h = absurd (omega arith)
  every_turn (suc n) h = rw (add-one, sub-one)

  -- the first byte permits too little
  pub every_fails : (n : ℕ) → 0 < n → permits a < least → every_byte least a n ≡ false
  every_fails n h l = every_turn n h ∙ simp (lt-leb least (permits a) l)

  pub every_next : (n : ℕ) → 0 < n → least ≤ permits a → every_byte least (a + 1) (n - 1) ≡ every_byte least a n
  every_next n h l = sym (every_turn n h ∙ simp (le-leb least (permits a) l))

pub every_at : (least a n k : ℕ) → every_byte least a n ≡ true → k < n → least ≤ permits (a + k)
every_at least a n zero e h =
    rw (add-zero a) (leb-true least (permits a) (and_left (leb least (permits a)) (every_byte least (a + 1) (n - 1)) (sym (every_turn least a n h) ∙ e)))
every_at least a n (suc k) e h =
    let t = and_right (leb least (permits a)) (every_byte least (a + 1) (n - 1)) (sym (every_turn least a n (omega arith)) ∙ e) in
    let m : a + 1 + k ≡ a + suc k = omega arith in
    rw m at (every_at least (a + 1) (n - 1) k t (omega arith))

pub every_made : (least a n : ℕ) → ((k : ℕ) → k < n → least ≤ permits (a + k)) → every_byte least a n ≡ true
unfolding every_byte
every_made least a zero f = refl
every_made least a (suc n) f =
    simp (
      le-leb least (permits a) (rw (add-zero a) at (f 0 (omega arith))),
      every_made least (suc a) n (λ k h.
          let m : a + suc k ≡ suc a + k = omega arith in rw m at (f (suc k) (omega arith))),
    )

-- ---- register by register

every_skip : (least a n k : ℕ) → ((j : ℕ) → j < k → least ≤ permits (a + j)) → k ≤ n → every_byte least (a + k) (n - k) ≡ every_byte least a n
every_skip least a n zero f h =
    let e₁ : a + 0 ≡ a = omega arith in
    let e₂ : n - 0 ≡ n = omega arith in
    rw (e₁, e₂)
every_skip least a n (suc k) f h =
    let e₁ : a + suc k ≡ a + k + 1 = omega arith in
    let e₂ : n - suc k ≡ n - k - 1 = omega arith in
    rw (e₁, e₂)
    (every_next least (a + k) (n - k) (omega arith) (f k (omega arith)) ∙ every_skip least a n k (λ j m. f j (omega arith)) (omega arith))

module _ (least a n run : ℕ) (l : 1 ≤ least) (h : least ≤ permits a) (e : a + run ≡ end_of (nth (place a))) where
  in_run : (j : ℕ) → j < run → least ≤ permits (a + j)
  in_run j m = let s = same_permits a j (omega arith) (omega arith) in omega arith

  -- the bytes of the register are all that are left, or the rest decides
  pub run_ends : n ≤ run → every_byte least a n ≡ true
  run_ends m = every_made least a n (λ j k. in_run j (omega arith))

  pub run_goes_on : run ≤ n → every_byte least (a + run) (n - run) ≡ every_byte least a n
  run_goes_on m = every_skip least a n run in_run m

-- what permits writing in every state permits it in one
pub every_weaker : (least weaker a n : ℕ) → weaker ≤ least → every_byte least a n ≡ true → every_byte weaker a n ≡ true
every_weaker least weaker a n h e = every_made weaker a n (λ k m. let p = every_at least a n k e m in omega arith)

-- ---- how long a run can be

-- a byte that permits something lies in the table
pub defined_inside : (a : ℕ) → 1 ≤ permits a → a < table_size
defined_inside a h = by_test (ltb a table_size) refl
  where
    by_test : (b : Bool) → ltb a table_size ≡ b → a < table_size
    by_test true e = ltb-true a table_size e
    by_test false e = let z = past a (ltb-false a table_size e) in absurd (omega arith)

abbrev no_nine : ℕ → Bool
no_nine a = not (every_byte 1 a 9)

module _ (least a n : ℕ) (l : 1 ≤ least) (e : every_byte least a n ≡ true) where
  permitted : (k : ℕ) → k < n → 1 ≤ permits (a + k)
  permitted k h = let p = every_at least a n k e h in omega arith

  -- what is read or written lies in the table
  pub every_inside : 0 < n → a + n ≤ table_size
  every_inside h = let p = defined_inside (a + (n - 1)) (permitted (n - 1) (omega arith)) in omega arith

  -- and has at most 8 bytes: a computed test shows that no 9 bytes side by side are defined
  pub every_short : n ≤ 8
  unfolding registers permits_by every_byte
  every_short = by_test (leb n 8) refl
    where
      by_test : (b : Bool) → leb n 8 ≡ b → n ≤ 8
      by_test true t = leb-true n 8 t
      by_test false t =
          let h = leb-false n 8 t in
          let nine = every_made 1 a 9 (λ k m. permitted k (omega arith)) in
          let inside = defined_inside a (rw (add-zero a) at (permitted 0 (omega arith))) in
          absurd (T_not (every_byte 1 a 9) (below no_nine table_size tt a inside) (true_holds (every_byte 1 a 9) nine))
