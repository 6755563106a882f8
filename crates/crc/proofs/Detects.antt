-- Changed bytes that the checksum shows: one, or two side by side, wherever they stand and whatever is around them.
use mathlib.Core.Path.{◌≡◌, refl, sym, ap, ap₂, ◌∙◌}
use mathlib.Core.List.{List, [], ◌∷◌, ◌++◌}
use Prim.Native.Nat.{ℕ, zero, suc, ◌+◌, ◌*◌, ◌/◌, ◌%◌, ◌^◌, ◌≤◌, ◌<◌}
use native.Mathlib.Nat.{mod-eq_of_lt}
use native.Mathlib.Omega.{arith}
use lib.Bits.{bit_xor, xor_mod, xor_self, xor_lt, xor_shifted}
use lib.ListN.{length, replicate}
use Rattle.lists.specs.Numbers.{Bytes}
use Rattle.lists.proofs.Xor.{bit_lt, xor_twice}
use Rattle.crc.specs.Crc.{polynomial, reduce_if, shift, shifts, crc_byte, crc_from}
use Rattle.crc.specs.Laws.{xor_bytes}
use Rattle.crc.proofs.Linear.{shifts_xor}
use Rattle.crc.proofs.Shifts.{shifts_low, zeros_shift}
use Rattle.crc.proofs.Laws.{checksum_laws, shift_lt, shifts_lt, crc_lt}
use Rattle.crc.proofs.Flips.{flipped, xor_zeros}

-- ---- only 0 is shifted to 0

-- The polynomial has the term 1: where it was subtracted, the lowest bit is 1.
by_top : (c bit : ℕ) → bit < 2 → c / 2 ^ 15 % 2 ≡ bit → c < 2 ^ 16 → reduce_if bit (c * 2 % 2 ^ 16) ≡ 0 → c ≡ 0
unfolding reduce_if
by_top c zero h t l e =
    let q : c / 2 ^ 15 ≡ 0 = sym (mod-eq_of_lt (omega arith)) ∙ t in
    let m : c * 2 % 2 ^ 16 ≡ c * 2 = mod-eq_of_lt (omega (arith, q)) in
    omega (arith, sym m ∙ e)
by_top c (suc zero) h t l e =
    let even : c * 2 % 2 ^ 16 % 2 ≡ 0 = omega arith in
    let odd : bit_xor (c * 2 % 2 ^ 16) polynomial % 2 ≡ 1 =
    xor_mod (c * 2 % 2 ^ 16) polynomial 1 ∙ ap (λ (x : ℕ). bit_xor x (polynomial % 2)) even in
    let none : bit_xor (c * 2 % 2 ^ 16) polynomial ≡ 0 = e in
    absurd (omega (arith, odd, none))
by_top c (suc (suc n)) h t l e = absurd (omega arith)

pub only_zero_shifts : (c : ℕ) → c < 2 ^ 16 → shift c ≡ 0 → c ≡ 0
unfolding shift
only_zero_shifts c l e = by_top c (c / 2 ^ 15 % 2) (bit_lt (c / 2 ^ 15)) refl l e

only_zero : (n c : ℕ) → c < 2 ^ 16 → shifts n c ≡ 0 → c ≡ 0
unfolding shifts
only_zero zero c l e = e
only_zero (suc n) c l e = only_zero_shifts c l (only_zero n (shift c) (shift_lt c) e)

-- ---- one byte or two that are not all 0 have another checksum than 0

-- two bytes are sixteen shifts of the number that they make
two_bytes : (x y : ℕ) → y < 2 ^ 8 → crc_from 0 (x ∷ y ∷ []) ≡ shifts 8 (shifts 8 (x * 2 ^ 8 + y))
unfolding crc_from crc_byte
two_bytes x y h =
    ap (shifts 8)
    (ap (bit_xor (shifts 8 (x * 2 ^ 8))) (sym (shifts_low 8 y (omega arith)))
    ∙ sym (shifts_xor 8 (x * 2 ^ 8) y)
    ∙ ap (shifts 8) (xor_shifted x 8 y h))

few_zeros : (e : List ℕ) → length e ≤ 2 → Bytes e → crc_from 0 e ≡ 0 → e ≡ replicate (length e) 0
unfolding crc_from crc_byte
few_zeros [] n b z = refl
few_zeros (x ∷ []) n b z =
    let h : x * 2 ^ 8 ≡ 0 = only_zero 8 (x * 2 ^ 8) (omega (arith, b 0)) z in
    ap (λ (y : ℕ). y ∷ []) (omega (arith, h))
few_zeros (x ∷ y ∷ []) n b z =
    let s = x * 2 ^ 8 + y in
    let small : s < 2 ^ 16 = omega (arith, b 0, b 1) in
    let once : shifts 8 s ≡ 0 = only_zero 8 (shifts 8 s) (shifts_lt 8 s small) (sym (two_bytes x y (b 1)) ∙ z) in
    let h : s ≡ 0 = only_zero 8 s small once in
    ap₂ (λ (u v : ℕ). u ∷ v ∷ []) (omega (arith, h)) (omega (arith, h))
few_zeros (x ∷ y ∷ u ∷ e) n b z = absurd (omega arith)

-- ---- strings that differ in one byte or in two neighbours

-- what leads from d to d', byte by byte
difference_length : (d d' : List ℕ) → length d' ≡ length d → length (xor_bytes d d') ≡ length d
unfolding xor_bytes
difference_length [] d' n = refl
difference_length (x ∷ d) [] n = absurd (omega arith)
difference_length (x ∷ d) (y ∷ d') n = ap suc (difference_length d d' (omega arith))

difference_bytes : (d d' : List ℕ) → Bytes d → Bytes d' → Bytes (xor_bytes d d')
unfolding xor_bytes
difference_bytes [] d' b b' i = omega arith
difference_bytes (x ∷ d) [] b b' i = omega arith
difference_bytes (x ∷ d) (y ∷ d') b b' zero = xor_lt 8 x y (b 0) (b' 0)
difference_bytes (x ∷ d) (y ∷ d') b b' (suc i) = difference_bytes d d' (λ j. b (suc j)) (λ j. b' (suc j)) i

by_difference : (d d' : List ℕ) → length d' ≡ length d → xor_bytes d (xor_bytes d d') ≡ d'
unfolding xor_bytes
by_difference [] [] n = refl
by_difference [] (y ∷ d') n = absurd (omega arith)
by_difference (x ∷ d) [] n = absurd (omega arith)
by_difference (x ∷ d) (y ∷ d') n = ap₂ (λ (u : ℕ) (l : List ℕ). u ∷ l) (xor_twice x y) (by_difference d d' (omega arith))

-- with the same sum they are the same
pub few_changed : (start : ℕ) (a d d' y : List ℕ) → length d ≤ 2 → length d' ≡ length d → Bytes d → Bytes d'
    → crc_from start (a ++ (d' ++ y)) ≡ crc_from start (a ++ (d ++ y)) → d' ≡ d
few_changed start a d d' y few n b b' e =
    let flips = xor_bytes d d' in
    let zeros : List ℕ = replicate (length y) 0 in
    let crc = crc_from start (a ++ (d ++ y)) in
    let m = difference_length d d' n in
    let same : bit_xor crc (crc_from 0 (flips ++ zeros)) ≡ crc =
    flipped start a d y flips (sym m) ∙ ap (λ (l : List ℕ). crc_from start (a ++ (l ++ y))) (by_difference d d' n) ∙ e in
    let change : crc_from 0 (flips ++ zeros) ≡ 0 =
    sym (xor_twice crc (crc_from 0 (flips ++ zeros))) ∙ ap (bit_xor crc) same ∙ xor_self crc in
    let alone : crc_from 0 flips ≡ 0 =
    only_zero (length y * 8) (crc_from 0 flips) (crc_lt 0 flips (omega arith))
    (sym (checksum_laws.joined 0 flips zeros ∙ zeros_shift (length y) (crc_from 0 flips)) ∙ change) in
    let none : flips ≡ replicate (length d) 0 =
    few_zeros flips (omega (arith, m)) (difference_bytes d d' b b') alone ∙ ap (λ (k : ℕ). replicate k 0) m in
    sym (by_difference d d' n) ∙ ap (xor_bytes d) none ∙ xor_zeros d
