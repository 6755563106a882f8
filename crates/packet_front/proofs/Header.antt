-- The header as a number, and what a packet's first bytes say: all of the header, or as much of it as is there.
use mathlib.Core.Path.{◌≡◌, refl, sym, ap, ◌∙◌}
use mathlib.Core.Bool.{Bool, true, false, ◌&&◌}
use mathlib.Core.List.{List, [], ◌∷◌}
use Prim.Native.Nat.{ℕ, ◌+◌, ◌*◌, ◌≤◌}
use native.Mathlib.Omega.{arith}
use lib.Dec.{eqb}
use lib.ListN.{length}
use borrow.Author.Tests.{eqb-true, eqb-false, eq-eqb, ne_eqb, le-leb, lt-leb}
use Rattle.std.specs.Int.{w32, from_le_bytes}
use Rattle.packet_front.specs.Header.{header_agrees, headed}

module _ (a b c d : ℕ) where
  abbrev number : ℕ
  number = a + b * 256 + c * 65536 + d * 16777216

  -- four bytes are the header's where their number is
  pub as_number : a ≤ 255 → b ≤ 255 → c ≤ 255 → d ≤ 255
      → eqb (from_le_bytes w32 (a ∷ b ∷ c ∷ d ∷ [])) 0x00FDFFFF ≡ (eqb 0xFF a && (eqb 0xFF b && (eqb 0xFD c && eqb 0x00 d)))
  as_number h i j k =
      go (eqb 0xFF a) (eqb 0xFF b) (eqb 0xFD c) (eqb 0x00 d) refl refl refl refl
    where
      go : (p q r s : Bool) → eqb 0xFF a ≡ p → eqb 0xFF b ≡ q → eqb 0xFD c ≡ r → eqb 0x00 d ≡ s
          → eqb number 0x00FDFFFF ≡ (p && (q && (r && s)))
      go false q r s e f g t = ne_eqb number 0x00FDFFFF (λ z. eqb-false 0xFF a e (omega (arith, z)))
      go true false r s e f g t = ne_eqb number 0x00FDFFFF (λ z. eqb-false 0xFF b f (omega (arith, z)))
      go true true false s e f g t = ne_eqb number 0x00FDFFFF (λ z. eqb-false 0xFD c g (omega (arith, z)))
      go true true true false e f g t = ne_eqb number 0x00FDFFFF (λ z. eqb-false 0x00 d t (omega (arith, z)))
      go true true true true e f g t =
          eq-eqb number 0x00FDFFFF
          (omega (arith, eqb-true 0xFF a e, eqb-true 0xFF b f, eqb-true 0xFD c g, eqb-true 0x00 d t))

module _ (s : List ℕ) where
  -- where four bytes are there, all of the header is, or they disagree
  pub agrees_whole : 4 ≤ length s → header_agrees s ≡ headed s
  unfolding headed
  agrees_whole h =
      rw (
        le-leb 4 (length s) h,
        lt-leb (length s) 0 (omega arith),
        lt-leb (length s) 1 (omega arith),
        lt-leb (length s) 2 (omega arith),
        lt-leb (length s) 3 (omega arith),
      )
