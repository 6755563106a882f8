-- Fresh values in the places of registers, as stores of their bytes: Reboot and Factory Reset.
use mathlib.Core.Path.{◌≡◌, refl, sym, ap, ◌∙◌}
use mathlib.Core.Bool.{Bool, true, false, cond, not, ◌&&◌}
use mathlib.Core.List.{List, [], ◌∷◌}
use Prim.Native.Nat.{ℕ, suc, ◌+◌, ◌-◌, ◌%◌, ◌≤◌}
use native.Mathlib.Omega.{arith}
use lib.Dec.{leb, eqb}
use lib.ListN.{length, take, drop, get_or, set, replicate, length-take, length-drop}
use lib.Seq.{drop-cons}
use borrow.Author.Tests.{eqb-true}
use Rattle.table_registers.specs.Registers.{Register, registers, table_size, end_of, writable}
use Rattle.table_registers.proofs.Rows.{inside, first_inside}
use Rattle.lists.proofs.Bools.{and_right}
use Rattle.lists.specs.Write.{placed}
use Rattle.buffers.proofs.Parts.{placed_whole}
use Rattle.lists.specs.Numbers.{bytes_of}
use Rattle.table_items.specs.Items.{put}
use Rattle.table_access.specs.Fresh.{freshened}
use Rattle.table_rules.specs.Outcomes.{on_table}
use Rattle.table_rules.proofs.Size.{on_table_lem}
use Rattle.table_access.proofs.Put.{put_sets, put_length}
use Rattle.table_resets.specs.Resets.{only, is_rom, reset_at_reboot, rebooted, reset_rom, keeping, keeps_id_and_baud}

-- on a list that is written out this computes to the stores themselves, those of the first register first
abbrev pub store : List ℕ → Register → List ℕ
store table r = cond (eqb r.bytes 1) (set table r.address (r.fresh % 256)) (placed table r.address (bytes_of r.bytes r.fresh))

abbrev stores : List Register → List ℕ → List ℕ
stores [] table = table
stores (r ∷ rs) table = stores rs (store table r)

store_put : (table : List ℕ) (r : Register) → end_of r ≤ length table → store table r ≡ put table r r.fresh
unfolding put bytes_of
store_put table r h = by_size (eqb r.bytes 1) refl
  where
    by_size : (b : Bool) → eqb r.bytes 1 ≡ b
        → cond b (set table r.address (r.fresh % 256)) (placed table r.address (bytes_of r.bytes r.fresh)) ≡ put table r r.fresh
    by_size true e = sym (put_sets table r r.fresh h ∙ rw (eqb-true r.bytes 1 e))
    by_size false e = refl

freshened_length : (rs : List Register) → inside rs ≡ true → (table : List ℕ) → length table ≡ table_size → length (freshened rs table) ≡ table_size
unfolding freshened
freshened_length [] e table sized = sized
freshened_length (r ∷ rs) e table sized =
    let f = first_inside r rs e in
    freshened_length rs (and_right (leb (end_of r) table_size) (inside rs) e) (put table r r.fresh)
    (put_length table r r.fresh (omega arith) ∙ sized)

freshened_stores : (rs : List Register) → inside rs ≡ true → (table : List ℕ) → length table ≡ table_size → stores rs table ≡ freshened rs table
unfolding freshened
freshened_stores [] e table sized = refl
freshened_stores (r ∷ rs) e table sized =
    let f = first_inside r rs e in
    ap (stores rs) (store_put table r (omega arith))
    ∙ freshened_stores rs (and_right (leb (end_of r) table_size) (inside rs) e) (put table r r.fresh)
    (put_length table r r.fresh (omega arith) ∙ sized)

-- a part that was filled with 0
pub filled : (table part : List ℕ) (a n : ℕ) → part ≡ replicate (length (take n (drop a table))) 0 → a + n ≤ length table → part ≡ replicate n 0
filled table part a n e h = e ∙ ap (λ (k : ℕ). replicate k 0) (simp (length-take, length-drop) (omega arith))

abbrev pub reset_by : (Register → Bool) → Register → Bool
reset_by keeps r = is_rom r.area && (writable r.access && not (keeps r))

abbrev rom_but : (Register → Bool) → List Register
rom_but keeps = only (reset_by keeps) registers

module _ (table : List ℕ) (sized : length table ≡ table_size) where
  abbrev word : ℕ → List ℕ
  word n = get_or table n 0 ∷ get_or table (n + 1) 0 ∷ get_or table (n + 2) 0 ∷ get_or table (n + 3) 0 ∷ []

  four : (n : ℕ) → n + 4 ≤ table_size → take 4 (drop n table) ≡ word n
  four n h =
      let e₁ : n + 1 ≡ suc n = omega arith in
      let e₂ : n + 2 ≡ suc (suc n) = omega arith in
      let e₃ : n + 3 ≡ suc (suc (suc n)) = omega arith in
      rw (
        e₁,
        e₂,
        e₃,
        drop-cons table n 0 (omega arith),
        drop-cons table (suc n) 0 (omega arith),
        drop-cons table (suc (suc n)) 0 (omega arith),
        drop-cons table (suc (suc (suc n))) 0 (omega arith),
      )

  -- the table with RAM fresh, and the four bytes in the place of the goal position
  abbrev fresh_ram : List ℕ
  fresh_ram = stores (only reset_at_reboot registers) table

  pub reboot_stores : (ram stored : List ℕ) → ram ≡ fresh_ram → stored ≡ placed ram 116 (take (length ram - 116) (word 52))
      → stored ≡ on_table table (rebooted table)
  unfolding registers bytes_of rebooted
  reboot_stores ram stored r e =
      let rs = only reset_at_reboot registers in
      let fresh = r ∙ freshened_stores rs refl table sized in
      e
      ∙ placed_whole ram (word 52) 116 (omega (arith, ap length fresh, freshened_length rs refl table sized))
      ∙ ap (λ (t : List ℕ). placed t 116 (word 52)) fresh
      ∙ ap (λ (b : List ℕ). placed (freshened rs table) 116 b) (sym (four 52 (omega arith)))
      ∙ sym (on_table_lem table sized _)

  fresh_rom : (keeps : Register → Bool) → inside (rom_but keeps) ≡ true → stores (rom_but keeps) table ≡ on_table table (reset_rom keeps table)
  unfolding reset_rom
  fresh_rom keeps e = freshened_stores (rom_but keeps) e table sized ∙ sym (on_table_lem table sized _)

  -- the stores of what every option resets
  abbrev pub others : List ℕ → List ℕ
  others = stores (rom_but keeps_id_and_baud)

  pub rom_stores : (id baud : Bool) → others (cond baud (cond id table (set table 7 1)) (set (cond id table (set table 7 1)) 8 1))
      ≡ on_table table (reset_rom (keeping id baud) table)
  unfolding registers bytes_of
  rom_stores true true = fresh_rom (keeping true true) refl
  rom_stores true false = fresh_rom (keeping true false) refl
  rom_stores false true = fresh_rom (keeping false true) refl
  rom_stores false false = fresh_rom (keeping false false) refl
