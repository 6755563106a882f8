-- The register that has a byte, as the code finds it.
use mathlib.Core.Path.{◌≡◌, refl, sym, ap, ◌∙◌}
use mathlib.Core.Bool.{Bool, true, false, cond, ◌&&◌, ◌||◌, and-false, false≢true}
use mathlib.Core.List.{List, [], ◌∷◌}
use Rattle.std.specs.Prelude.{Option, None, Some}
use Prim.Native.Nat.{ℕ, suc, ◌+◌, ◌-◌, ◌≤◌, ◌<◌}
use native.Mathlib.Omega.{arith}
use lib.Dec.{T, leb, ltb, eqb, eqb→eq}
use lib.ListN.{length, get_or}
use borrow.Author.Tests.{leb-true, ltb-true, ltb-false, le-ltb, ne_eqb}
use Rattle.lists.proofs.Below.{all_below, below}
use Rattle.lists.proofs.Bools.{and_left, and_right}
use Rattle.table_registers.specs.Registers.{Register, Access, read_only, read_write, Area, rom, ram, register, registers, table_size, end_of, holds, grant, permits_by, permits}
use Rattle.table_registers.specs.Rows.{permitted, row_of, row_in, row_at, one_or_four}
use Rattle.table_registers.specs.declared.Access.{Access as Permitted}
use Rattle.table_registers.specs.declared.Access.TheVariants.{Read, RomWrite, RamWrite}
use Rattle.table_registers.specs.declared.Row.{Row}

-- what stands past the end of the list
abbrev pub no_register : Register
no_register = register 0 0 read_only ram 0

abbrev pub count : ℕ
count = length registers

abbrev pub nth : ℕ → Register
nth i = get_or registers i no_register

-- the number of registers before the one that has the byte at a; of all, where none has it
unfoldable pub place_in : List Register → ℕ → ℕ
place_in [] a = 0
place_in (r ∷ rs) a = cond (holds r a) 0 (suc (place_in rs a))

abbrev pub place : ℕ → ℕ
place a = place_in registers a

-- by its name, so that a proof stays as it is when the list grows
abbrev pub mark_of : Register → ℕ
mark_of r = place r.address

-- the number of what is permitted, as the code compares it
abbrev pub number_of : Permitted → ℕ
number_of Read = 1
number_of RomWrite = 2
number_of RamWrite = 3

same_grant : (access : Access) (area : Area) → number_of (permitted access area) ≡ grant access area
same_grant read_only area = refl
same_grant (read_write low high) rom = refl
same_grant (read_write low high) ram = refl

-- what a row permits: where there is none, nothing
abbrev permits_of : Option Row → ℕ
permits_of None = 0
permits_of (Some row) = number_of row.permits

row_or : Row → Option Row → Row
row_or other None = other
row_or other (Some row) = row

-- ---- the list, whatever registers it has

module _ (a : ℕ) where
  row_placed : (rs : List Register) → place_in rs a < length rs → row_in rs a ≡ Some (row_of (get_or rs (place_in rs a) no_register))
  unfolding row_in place_in
  row_placed [] h = absurd (omega arith)
  row_placed (r ∷ rs) h = by_test (holds r a) h (row_placed rs)
    where
      by_test : (b : Bool) → cond b 0 (suc (place_in rs a)) < suc (length rs)
          → (place_in rs a < length rs → row_in rs a ≡ Some (row_of (get_or rs (place_in rs a) no_register)))
          → cond b (Some (row_of r)) (row_in rs a) ≡ Some (row_of (get_or (r ∷ rs) (cond b 0 (suc (place_in rs a))) no_register))
      by_test true k rest = refl
      by_test false k rest = rest (omega arith)

  row_none : (rs : List Register) → length rs ≤ place_in rs a → row_in rs a ≡ None
  unfolding row_in place_in
  row_none [] h = refl
  row_none (r ∷ rs) h = by_test (holds r a) h (row_none rs)
    where
      by_test : (b : Bool) → suc (length rs) ≤ cond b 0 (suc (place_in rs a)) → (length rs ≤ place_in rs a → row_in rs a ≡ None)
          → cond b (Some (row_of r)) (row_in rs a) ≡ None
      by_test true k rest = absurd (omega arith)
      by_test false k rest = rest (omega arith)

  row_permits : (rs : List Register) → permits_of (row_in rs a) ≡ permits_by rs a
  unfolding row_in permits_by
  row_permits [] = refl
  row_permits (r ∷ rs) = by_test (holds r a) (row_permits rs)
    where
      by_test : (b : Bool) → permits_of (row_in rs a) ≡ permits_by rs a
          → permits_of (cond b (Some (row_of r)) (row_in rs a)) ≡ cond b (grant r.access r.area) (permits_by rs a)
      by_test true rest = same_grant r.access r.area
      by_test false rest = rest

  place_holds : (rs : List Register) → place_in rs a < length rs → holds (get_or rs (place_in rs a) no_register) a ≡ true
  unfolding place_in
  place_holds [] h = absurd (omega arith)
  place_holds (r ∷ rs) h = by_test (holds r a) refl h (place_holds rs)
    where
      by_test : (b : Bool) → holds r a ≡ b → cond b 0 (suc (place_in rs a)) < suc (length rs)
          → (place_in rs a < length rs → holds (get_or rs (place_in rs a) no_register) a ≡ true)
          → holds (get_or (r ∷ rs) (cond b 0 (suc (place_in rs a))) no_register) a ≡ true
      by_test true e k rest = e
      by_test false e k rest = rest (omega arith)

-- ---- the register list, by computed tests

-- each of the n bytes from `from` on has the register of place i
abbrev run : ℕ → ℕ → ℕ → Bool
run i from n = all_below (λ (k : ℕ). eqb (place (from + k)) i) n

run_place : (i from n : ℕ) → T (run i from n) → (a : ℕ) → from ≤ a → a < from + n → place a ≡ i
run_place i from n t a h k =
    let e : from + (a - from) ≡ a = omega arith in
    rw e at (eqb→eq (place (from + (a - from))) i (below (λ (j : ℕ). eqb (place (from + j)) i) n t (a - from) (omega arith)))

pub none_from : (from n : ℕ) → T (run count from n) → (a : ℕ) → from ≤ a → a < from + n → None ≡ row_at a
none_from from n t a h k = let e = run_place count from n t a h k in sym (row_none a registers (omega arith))

-- past the table there is no register
abbrev pub inside : List Register → Bool
inside [] = true
inside (r ∷ rs) = leb (end_of r) table_size && inside rs

pub first_inside : (r : Register) (rs : List Register) → inside (r ∷ rs) ≡ true → end_of r ≤ table_size
first_inside r rs e = leb-true (end_of r) table_size (and_left (leb (end_of r) table_size) (inside rs) e)

past_in : (rs : List Register) → inside rs ≡ true → (a : ℕ) → table_size ≤ a → None ≡ row_in rs a
unfolding row_in
past_in [] e a h = refl
past_in (r ∷ rs) e a h =
    let k = first_inside r rs e in
    simp (le-ltb a (end_of r) (omega arith), and-false) (past_in rs (and_right (leb (end_of r) table_size) (inside rs) e) a h)

pub none_past : (a : ℕ) → table_size ≤ a → None ≡ row_at a
unfolding registers
none_past a h = past_in registers refl a h

-- ---- the register of a byte that permits something

pub permits_row : (a : ℕ) → permits_of (row_at a) ≡ permits a
permits_row a = row_permits a registers

placed_row : (a : ℕ) → place a < count → row_at a ≡ Some (row_of (nth (place a)))
placed_row a h = row_placed a registers h

module _ (a : ℕ) (h : 1 ≤ permits a) where
  pub place_inside : place a < count
  place_inside = by_test (ltb (place a) count) refl
    where
      by_test : (b : Bool) → ltb (place a) count ≡ b → place a < count
      by_test true e = ltb-true (place a) count e
      by_test false e =
          let l = ltb-false (place a) count e in
          let none = ap permits_of (row_none a registers (omega arith)) in
          let p = row_permits a registers in
          absurd (omega arith)

  pub row_is : row_at a ≡ Some (row_of (nth (place a)))
  row_is = placed_row a place_inside

  pub own_grant : grant (nth (place a)).access (nth (place a)).area ≡ permits a
  own_grant = sym (same_grant _ _) ∙ sym (ap permits_of row_is) ∙ permits_row a

  has : holds (nth (place a)) a ≡ true
  has = place_holds a registers place_inside

  pub starts : (nth (place a)).address ≤ a
  starts = leb-true (nth (place a)).address a (and_left _ (ltb a (end_of (nth (place a)))) has)

  pub ends : a < end_of (nth (place a))
  ends = ltb-true a (end_of (nth (place a))) (and_right (leb (nth (place a)).address a) _ has)

-- A computed test over the registers: each lies in the table, has a byte, has each of its bytes alone, and has one byte or four
-- if it can be written.
abbrev sound : ℕ → Bool
sound i =
    leb (end_of (nth i)) table_size
    && (ltb 0 (nth i).bytes && (run i (nth i).address (nth i).bytes
    && (eqb (grant (nth i).access (nth i).area) 1 || one_or_four (nth i).bytes)))

holds_true : (b : Bool) → T b → b ≡ true
holds_true true t = refl
holds_true false t = absurd t

pub true_holds : (b : Bool) → b ≡ true → T b
true_holds true e = tt
true_holds false e = absurd (false≢true e)

module _ (i : ℕ) (h : i < count) where
  nth_sound : sound i ≡ true
  unfolding registers place_in
  nth_sound = holds_true (sound i) (below sound count tt i h)

  pub nth_end : end_of (nth i) ≤ table_size
  nth_end = leb-true (end_of (nth i)) table_size (and_left _ _ nth_sound)

  pub nth_some : 0 < (nth i).bytes
  nth_some = ltb-true 0 (nth i).bytes (and_left _ _ (and_right (leb (end_of (nth i)) table_size) _ nth_sound))

  nth_rest : (run i (nth i).address (nth i).bytes && (eqb (grant (nth i).access (nth i).area) 1 || one_or_four (nth i).bytes)) ≡ true
  nth_rest = and_right (ltb 0 (nth i).bytes) _ (and_right (leb (end_of (nth i)) table_size) _ nth_sound)

  pub nth_place : (a : ℕ) → (nth i).address ≤ a → a < end_of (nth i) → place a ≡ i
  nth_place =
      run_place i (nth i).address (nth i).bytes
      (true_holds (run i (nth i).address (nth i).bytes) (and_left (run i (nth i).address (nth i).bytes) _ nth_rest))

  pub nth_bytes : 2 ≤ grant (nth i).access (nth i).area → one_or_four (nth i).bytes ≡ true
  nth_bytes w =
      rw (ne_eqb (grant (nth i).access (nth i).area) 1 (λ e. omega arith)) at
      (and_right (run i (nth i).address (nth i).bytes) (eqb (grant (nth i).access (nth i).area) 1 || one_or_four (nth i).bytes) nth_rest)

-- each byte of a register has it
pub own_row : (i : ℕ) → i < count → (a : ℕ) → (nth i).address ≤ a → a < end_of (nth i) → Some (row_of (nth i)) ≡ row_at a
own_row i h a l k =
    let e = nth_place i h a l k in
    sym (placed_row a (omega arith) ∙ ap (λ (j : ℕ). Some (row_of (nth j))) e)

-- the bytes of a register permit the same
pub same_permits : (a k : ℕ) → 1 ≤ permits a → a + k < end_of (nth (place a)) → permits (a + k) ≡ permits a
same_permits a k h l =
    let s = starts a h in
    let p = place_inside a h in
    let e = nth_place (place a) p (a + k) (omega arith) l in
    sym (permits_row (a + k))
    ∙ ap permits_of (placed_row (a + k) (omega arith) ∙ ap (λ (j : ℕ). Some (row_of (nth j))) e ∙ sym (row_is a h))
    ∙ permits_row a

-- what the code has found
module _ (row : Row) (a : ℕ) (e : Some row ≡ row_at a) where
  pub found_permits : number_of row.permits ≡ permits a
  found_permits = ap permits_of e ∙ permits_row a

  module _ (h : 1 ≤ permits a) where
    pub found_row : row ≡ row_of (nth (place a))
    unfolding row_or
    found_row = ap (row_or row) (e ∙ row_is a h)

    pub found_end : row.start + row.bytes ≡ end_of (nth (place a))
    found_end = ap (λ (r : Row). r.start + r.bytes) found_row

    pub found_after : a < row.start + row.bytes
    found_after = let k = found_end in let n = ends a h in omega arith

    pub found_inside : row.start + row.bytes ≤ table_size
    found_inside = let k = found_end in let n = nth_end (place a) (place_inside a h) in omega arith

-- and where it has found none
pub none_permits : (a : ℕ) → None ≡ row_at a → permits a ≡ 0
none_permits a e = sym (ap permits_of e ∙ permits_row a)
