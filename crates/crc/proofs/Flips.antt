-- Flipped bits change the sum by that of the flips and as many bytes of 0 as follow them: from the laws of the sum alone.
use mathlib.Core.Path.{◌≡◌, refl, sym, ap, ap₂, ◌∙◌}
use mathlib.Core.List.{List, [], ◌∷◌, ◌++◌}
use Prim.Native.Nat.{ℕ, ◌*◌}
use native.Mathlib.Omega.{arith}
use lib.Bits.{bit_xor, xor_comm, xor_zero_r}
use lib.ListN.{length, replicate, length-append, length-replicate}
use Rattle.crc.specs.Crc.{shifts, crc_from}
use Rattle.crc.specs.Laws.{xor_bytes}
use Rattle.crc.specs.Flips.{FlippedChecksum}
use Rattle.crc.proofs.Shifts.{zeros_shift}
use Rattle.crc.proofs.Laws.{checksum_laws}

pub xor_zeros : (c : List ℕ) → xor_bytes c (replicate (length c) 0) ≡ c
unfolding xor_bytes
xor_zeros [] = refl
xor_zeros (x ∷ c) = ap₂ (λ (y : ℕ) (l : List ℕ). y ∷ l) (xor_zero_r x) (xor_zeros c)

-- a start is shifted on beside the bytes
pub crc_apart : (c : ℕ) (s : List ℕ) → crc_from c s ≡ bit_xor (shifts (length s * 8) c) (crc_from 0 s)
crc_apart c s =
    let zeros : List ℕ = replicate (length s) 0 in
    ap (crc_from c) (sym (xor_zeros s))
    ∙ checksum_laws.adds 0 c s zeros (simp length-replicate)
    ∙ xor_comm (crc_from 0 s) (crc_from c zeros)
    ∙ ap (λ (x : ℕ). bit_xor x (crc_from 0 s)) (zeros_shift (length s) c)

xor_parts : (b f c d : List ℕ) → length b ≡ length f → xor_bytes (b ++ c) (f ++ d) ≡ xor_bytes b f ++ xor_bytes c d
unfolding xor_bytes
xor_parts [] [] c d e = refl
xor_parts [] (y ∷ f) c d e = absurd (omega arith)
xor_parts (x ∷ b) [] c d e = absurd (omega arith)
xor_parts (x ∷ b) (y ∷ f) c d e = ap (λ (l : List ℕ). bit_xor x y ∷ l) (xor_parts b f c d (omega arith))

pub flipped : FlippedChecksum
flipped start a b c flips e =
    let zeros : List ℕ = replicate (length c) 0 in
    let same : length (b ++ c) ≡ length (flips ++ zeros) = simp (length-append, length-replicate) (omega arith) in
    ap (λ (x : ℕ). bit_xor x (crc_from 0 (flips ++ zeros))) (checksum_laws.joined start a (b ++ c))
    ∙ sym (checksum_laws.adds (crc_from start a) 0 (b ++ c) (flips ++ zeros) same)
    ∙ ap₂ crc_from (xor_zero_r (crc_from start a))
    (xor_parts b flips c zeros e ∙ ap (λ (l : List ℕ). xor_bytes b flips ++ l) (xor_zeros c))
    ∙ sym (checksum_laws.joined start a (xor_bytes b flips ++ c))
