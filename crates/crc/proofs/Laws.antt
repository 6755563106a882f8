-- The laws of the checksum that other crates cite: those that a leaf promises, its range, and a pass over bytes.
use mathlib.Core.Path.{◌≡◌, refl, sym, ap, subst, ◌∙◌}
use mathlib.Core.List.{List, [], ◌∷◌, ◌++◌}
use Prim.Native.Nat.{ℕ, zero, suc, ◌+◌, ◌*◌, ◌/◌, ◌%◌, ◌^◌, ◌≤◌, ◌<◌}
use native.Mathlib.Nat.{mod-lt}
use native.Mathlib.Numerals.{add-one}
use native.Mathlib.Omega.{arith}
use lib.Pow.{pow_pos}
use lib.Bits.{bit_xor, xor_lt}
use lib.ListN.{length, get_or, drop, drop_of_length-le}
use lib.Seq.{drop-cons}
use Rattle.lists.proofs.Xor.{bit_lt}
use Rattle.crc.specs.Crc.{polynomial, shift, shifts, crc_byte, crc_from}
use Rattle.crc.specs.Laws.{Joined, xor_bytes, Adds, ChecksumLaws}
use Rattle.crc.proofs.Linear.{shift_flat, crc_byte_xor}

joined : Joined
unfolding crc_from
joined start [] b = refl
joined start (x ∷ a) b = joined (crc_byte start x) a b

adds : Adds
unfolding crc_from xor_bytes
adds s t [] [] e = refl
adds s t [] (y ∷ b) e = absurd (omega arith)
adds s t (x ∷ a) [] e = absurd (omega arith)
adds s t (x ∷ a) (y ∷ b) e =
    ap (λ (c : ℕ). crc_from c (xor_bytes a b)) (crc_byte_xor s t x y) ∙ adds (crc_byte s x) (crc_byte t y) a b (omega arith)

-- what a leaf promises beside its result
pub checksum_laws : ChecksumLaws
checksum_laws = record { joined = joined; adds = adds }

pub shift_lt : (c : ℕ) → shift c < 2 ^ 16
shift_lt c =
    let top : c / 2 ^ 15 % 2 < 2 = bit_lt (c / 2 ^ 15) in
    rw (shift_flat c)
    (xor_lt 16 (c * 2 % 2 ^ 16) (c / 2 ^ 15 % 2 * polynomial) (mod-lt (c * 2) (pow_pos 16)) (omega arith))

pub shifts_lt : (n c : ℕ) → c < 2 ^ 16 → shifts n c < 2 ^ 16
unfolding shifts
shifts_lt zero c h = h
shifts_lt (suc n) c h = shifts_lt n (shift c) (shift_lt c)

-- one shift brings any number within the register
pub shifts_some_lt : (n c : ℕ) → shifts (suc n) c < 2 ^ 16
unfolding shifts
shifts_some_lt n c = shifts_lt n (shift c) (shift_lt c)

pub crc_byte_lt : (c b : ℕ) → crc_byte c b < 2 ^ 16
unfolding crc_byte
crc_byte_lt c b = shifts_some_lt 7 (bit_xor c (b * 2 ^ 8))

pub crc_lt : (start : ℕ) (s : List ℕ) → start < 2 ^ 16 → crc_from start s < 2 ^ 16
unfolding crc_from
crc_lt start [] h = h
crc_lt start (b ∷ s) h = crc_lt (crc_byte start b) s (crc_byte_lt start b)

-- ---- a pass over bytes, as the loops of the leaves make it

-- at i: the register has 16 bits, and going on from it over the bytes that are left gives the sum
abbrev pub Passed : ℕ → List ℕ → ℕ → ℕ → Type 0
Passed sum s i c = (c < 2 ^ 16) × (crc_from c (drop i s) ≡ sum)

module _ (sum : ℕ) (s : List ℕ) (i c : ℕ) (p : Passed sum s i c) where
  -- a round: the next bytes go in
  pub pass_part : (part : List ℕ) (j next : ℕ) → drop i s ≡ part ++ drop j s → next ≡ crc_from c part → Passed sum s j next
  pass_part part j next d e = (
    subst (λ (x : ℕ). x < 2 ^ 16) (sym e) (crc_lt c part p.0),
    ap (λ (x : ℕ). crc_from x (drop j s)) e ∙ sym (joined c part (drop j s)) ∙ ap (crc_from c) (sym d) ∙ p.1,
  )

  -- and where that is one byte
  pub pass_byte : (next : ℕ) → i < length s → next ≡ crc_byte c (get_or s i 0) → Passed sum s (i + 1) next
  unfolding crc_from
  pass_byte next h e = pass_part (get_or s i 0 ∷ []) (i + 1) next (rw (add-one, drop-cons s i 0)) e

  -- the end: nothing is left
  pub pass_end : length s ≤ i → c ≡ sum
  unfolding crc_from
  pass_end h = sym (ap (crc_from c) (drop_of_length-le s h)) ∙ p.1
