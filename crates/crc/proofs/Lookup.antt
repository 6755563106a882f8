-- A step by a table is as many steps of the register as the table's index has bits: stated once for k bits, which are looked
-- up, and the j others. A table of 256 numbers is the use for 8 and 8, one of 16 numbers that for 12 and 4.
use mathlib.Core.Path.{◌≡◌, refl, sym, ap, subst, ◌∙◌}
use mathlib.Core.Bool.{Bool}
use mathlib.Core.List.{List}
use Prim.Native.Nat.{ℕ, ◌+◌, ◌*◌, ◌/◌, ◌%◌, ◌^◌, ◌<◌}
use native.Mathlib.Nat.{mod-lt, mod-eq_of_lt, add_comm, mul-mod_left, add-zero}
use native.Mathlib.Omega.{arith}
use lib.Pow.{pow_pos, split, shl_lt, shr_lt, shl-shr, mod-pow-add}
use lib.Bits.{bit_xor, xor_comm, xor_zero_r, xor_mod, xor_shifted, xor_lt}
use lib.Dec.{T, eqb, eqb→eq}
use lib.ListN.{get_or}
use Rattle.lists.proofs.Below.{all_below, below}
use Rattle.lists.proofs.Xor.{xor_assoc, xor_shl}
use Rattle.crc.specs.Crc.{shifts, crc_byte}
use Rattle.crc.proofs.Linear.{shifts_xor}
use Rattle.crc.proofs.Shifts.{shifts_low, shifts_add}
use Rattle.crc.proofs.Laws.{shifts_some_lt}

-- the rule of a table: its entry i is the register after k shifts of i in its k highest bits
pub Rule : ℕ → ℕ → List ℕ → Type 0
Rule j k table = (i : ℕ) → i < 2 ^ k → get_or table i 0 ≡ shifts k (i * 2 ^ j)

-- the same as a test, which the checker computes for a given table
abbrev pub entry_right : ℕ → ℕ → List ℕ → ℕ → Bool
entry_right j k table i = eqb (get_or table i 0) (shifts k (i * 2 ^ j))

pub rule : (j k : ℕ) (table : List ℕ) → T (all_below (entry_right j k table) (2 ^ k)) → Rule j k table
unfolding Rule
rule j k table t i h = eqb→eq (get_or table i 0) (shifts k (i * 2 ^ j)) (below (entry_right j k table) (2 ^ k) t i h)

module _ (j k : ℕ) (sixteen : j + k ≡ 16) where
  -- what k shifts leave of the j low bits
  low : (c : ℕ) → c * 2 ^ k % 2 ^ 16 ≡ shifts k (c % 2 ^ j)
  low c =
      ap (λ (n : ℕ). c * 2 ^ k % 2 ^ n) (sym sixteen)
      ∙ mod-pow-add (c * 2 ^ k) j k
      ∙ ap (λ (x : ℕ). x % 2 ^ j * 2 ^ k + c * 2 ^ k % 2 ^ k) (shl-shr c k)
      ∙ ap (λ (x : ℕ). c % 2 ^ j * 2 ^ k + x) (mul-mod_left c (2 ^ k))
      ∙ add-zero (c % 2 ^ j * 2 ^ k)
      ∙ sym (shifts_low k (c % 2 ^ j) within)
    where
      within : c % 2 ^ j * 2 ^ k < 2 ^ 16
      within = subst (λ (n : ℕ). c % 2 ^ j * 2 ^ k < 2 ^ n) sixteen (shl_lt j k (mod-lt c (pow_pos j)))

  -- these, with what k shifts make of the k high bits and the k bits that join them
  table_step : (c v : ℕ) → bit_xor (c * 2 ^ k % 2 ^ 16) (shifts k (bit_xor (c / 2 ^ j) v * 2 ^ j)) ≡ shifts k (bit_xor c (v * 2 ^ j))
  table_step c v =
      ap (λ (x : ℕ). bit_xor x (shifts k (bit_xor (c / 2 ^ j) v * 2 ^ j))) (low c)
      ∙ sym (shifts_xor k (c % 2 ^ j) (bit_xor (c / 2 ^ j) v * 2 ^ j))
      ∙ ap (shifts k) whole
    where
      parts : bit_xor (c % 2 ^ j) (c / 2 ^ j * 2 ^ j) ≡ c
      parts =
          xor_comm (c % 2 ^ j) (c / 2 ^ j * 2 ^ j) ∙ xor_shifted (c / 2 ^ j) j (c % 2 ^ j) (mod-lt c (pow_pos j)) ∙ split c j

      whole : bit_xor (c % 2 ^ j) (bit_xor (c / 2 ^ j) v * 2 ^ j) ≡ bit_xor c (v * 2 ^ j)
      whole =
          ap (bit_xor (c % 2 ^ j)) (xor_shl j (c / 2 ^ j) v)
          ∙ sym (xor_assoc (c % 2 ^ j) (c / 2 ^ j * 2 ^ j) (v * 2 ^ j))
          ∙ ap (λ (x : ℕ). bit_xor x (v * 2 ^ j)) parts

  pub index_lt : (c v : ℕ) → c < 2 ^ 16 → v < 2 ^ k → bit_xor (c / 2 ^ j) v < 2 ^ k
  index_lt c v hc hv =
      xor_lt k (c / 2 ^ j) v
      (shr_lt k j (subst (λ (n : ℕ). c < 2 ^ n) (sym (add_comm k j ∙ sixteen)) hc)) hv

  -- what a table that keeps the rule makes of a register and k bits
  pub looked_up : (table : List ℕ) → Rule j k table → (c v : ℕ) → c < 2 ^ 16 → v < 2 ^ k
      → bit_xor (c * 2 ^ k % 2 ^ 16) (get_or table (bit_xor (c / 2 ^ j) v) 0) ≡ shifts k (bit_xor c (v * 2 ^ j))
  unfolding Rule
  looked_up table r c v hc hv =
      ap (bit_xor (c * 2 ^ k % 2 ^ 16)) (r (bit_xor (c / 2 ^ j) v) (index_lt c v hc hv)) ∙ table_step c v

-- ---- a byte

-- by a table of 256: its entries have 16 bits
pub entry_lt : (table : List ℕ) → Rule 8 8 table → (i : ℕ) → i < 2 ^ 8 → get_or table i 0 < 2 ^ 16
unfolding Rule
entry_lt table r i h = subst (λ (x : ℕ). x < 2 ^ 16) (sym (r i h)) (shifts_some_lt 7 (i * 2 ^ 8))

-- a register is kept as the last entry and the low half, moved up, of the one before
abbrev pub kept : ℕ → ℕ → ℕ
kept last before = bit_xor last (before * 2 ^ 8 % 2 ^ 16)

-- the register where it has met a byte
abbrev pub met : ℕ → ℕ → ℕ → ℕ
met last before b = bit_xor last (bit_xor before b * 2 ^ 8 % 2 ^ 16)

module _ (last before b : ℕ) (hl : last < 2 ^ 16) where
  pub met_lt : met last before b < 2 ^ 16
  met_lt = xor_lt 16 last (bit_xor before b * 2 ^ 8 % 2 ^ 16) hl (mod-lt _ (pow_pos 16))

  met_low : met last before b % 2 ^ 8 ≡ last % 2 ^ 8
  met_low =
      let none : bit_xor before b * 2 ^ 8 % 2 ^ 16 % 2 ^ 8 ≡ 0 = omega arith in
      xor_mod last (bit_xor before b * 2 ^ 8 % 2 ^ 16) 8 ∙ ap (bit_xor (last % 2 ^ 8)) none ∙ xor_zero_r (last % 2 ^ 8)

  met_byte : b < 2 ^ 8 → met last before b ≡ bit_xor (kept last before) (b * 2 ^ 8)
  met_byte small =
      ap (bit_xor last)
      (ap (λ (x : ℕ). x % 2 ^ 16) (xor_shl 8 before b)
      ∙ xor_mod (before * 2 ^ 8) (b * 2 ^ 8) 16
      ∙ ap (bit_xor (before * 2 ^ 8 % 2 ^ 16)) (mod-eq_of_lt (omega arith)))
      ∙ sym (xor_assoc last (before * 2 ^ 8 % 2 ^ 16) (b * 2 ^ 8))

  -- and after the byte, by the entry for the high half
  pub by_byte : (table : List ℕ) → Rule 8 8 table → b < 2 ^ 8
      → kept (get_or table (met last before b / 2 ^ 8) 0) last ≡ crc_byte (kept last before) b
  unfolding crc_byte
  by_byte table r small =
      let c : ℕ = met last before b in
      let up : last * 2 ^ 8 % 2 ^ 16 ≡ c * 2 ^ 8 % 2 ^ 16 = low 8 8 refl last ∙ ap (shifts 8) (sym met_low) ∙ sym (low 8 8 refl c) in
      ap (bit_xor (get_or table (c / 2 ^ 8) 0)) up
      ∙ xor_comm (get_or table (c / 2 ^ 8) 0) (c * 2 ^ 8 % 2 ^ 16)
      ∙ ap (λ (x : ℕ). bit_xor (c * 2 ^ 8 % 2 ^ 16) (get_or table x 0)) (sym (xor_zero_r (c / 2 ^ 8)))
      ∙ looked_up 8 8 refl table r c 0 met_lt (pow_pos 8)
      ∙ ap (shifts 8) (xor_zero_r c ∙ met_byte small)

-- four shifts with the high half of a byte, then four with the low one
two_halves : (c b : ℕ) → shifts 4 (bit_xor (shifts 4 (bit_xor c (b / 16 * 2 ^ 12))) (b % 16 * 2 ^ 12)) ≡ crc_byte c b
unfolding crc_byte
two_halves c b =
    ap (shifts 4)
    (ap (bit_xor (shifts 4 (bit_xor c (b / 16 * 2 ^ 12)))) (sym up)
    ∙ sym (shifts_xor 4 (bit_xor c (b / 16 * 2 ^ 12)) (b % 16 * 2 ^ 8))
    ∙ ap (shifts 4) joined)
    ∙ sym (shifts_add 4 4 (bit_xor c (b * 2 ^ 8)))
  where
    up : shifts 4 (b % 16 * 2 ^ 8) ≡ b % 16 * 2 ^ 12
    up = shifts_low 4 (b % 16 * 2 ^ 8) (omega (arith, mod-lt b (pow_pos 4))) ∙ omega arith

    joined : bit_xor (bit_xor c (b / 16 * 2 ^ 12)) (b % 16 * 2 ^ 8) ≡ bit_xor c (b * 2 ^ 8)
    joined =
        xor_assoc c (b / 16 * 2 ^ 12) (b % 16 * 2 ^ 8)
        ∙ ap (bit_xor c) (xor_shifted (b / 16) 12 (b % 16 * 2 ^ 8) (omega (arith, mod-lt b (pow_pos 4))) ∙ omega (arith, split b 4))

-- by a table of 16: a look with half a byte, and the two looks for a byte
abbrev pub looked : List ℕ → ℕ → ℕ → ℕ
looked table c v = bit_xor (c * 2 ^ 4 % 2 ^ 16) (get_or table (bit_xor (c / 2 ^ 12) v) 0)

module _ (table : List ℕ) (r : Rule 12 4 table) (c : ℕ) (hc : c < 2 ^ 16) where
  shifted : (v : ℕ) → v < 2 ^ 4 → looked table c v ≡ shifts 4 (bit_xor c (v * 2 ^ 12))
  shifted v hv = looked_up 12 4 refl table r c v hc hv

  pub looked_lt : (v : ℕ) → v < 2 ^ 4 → looked table c v < 2 ^ 16
  looked_lt v hv = subst (λ (x : ℕ). x < 2 ^ 16) (sym (shifted v hv)) (shifts_some_lt 3 (bit_xor c (v * 2 ^ 12)))

pub by_halves : (table : List ℕ) → Rule 12 4 table → (c b : ℕ) → c < 2 ^ 16 → b < 2 ^ 8
    → looked table (looked table c (b / 16)) (b % 16) ≡ crc_byte c b
by_halves table r c b hc hb =
    let h : b / 16 < 2 ^ 4 = omega arith in
    shifted table r (looked table c (b / 16)) (looked_lt table r c hc (b / 16) h) (b % 16) (mod-lt b (pow_pos 4))
    ∙ ap (λ (x : ℕ). shifts 4 (bit_xor x (b % 16 * 2 ^ 12))) (shifted table r c hc (b / 16) h)
    ∙ two_halves c b
