-- The steps of writing a packet make the packet.
use mathlib.Core.Path.{◌≡◌, ap, ◌∙◌}
use mathlib.Core.List.{List, [], ◌∷◌, ◌++◌}
use Prim.Native.Nat.{ℕ, ◌+◌, ◌-◌, ◌≤◌}
use native.Mathlib.Omega.{arith}
use lib.ListN.{length, take, drop, set, length-append, length-drop}
use lib.Seq.{take_all}
use Rattle.lists.specs.Write.{overwritten, placed}
use Rattle.lists.proofs.Write.{overwritten_parts}
use Rattle.packet_v1.specs.Packet.{checksum_of}
use Rattle.packet_encoder_v1.specs.Writing.{packet_of}
use Rattle.packet_encoder_v1.proofs.Lists.{set_next}

pub packet_length : (id : ℕ) (body : List ℕ) → length (packet_of id body) ≡ length body + 5
unfolding packet_of
packet_length id body = simp length-append (omega arith)

-- the bytes before the parameters
abbrev pub front : ℕ → ℕ → ℕ → List ℕ
front id n instruction = 0xFF ∷ 0xFF ∷ id ∷ n ∷ instruction ∷ []

-- o₀ the buffer, o₁ with the front written, o₂ with the parameters after it
module _ (id instruction : ℕ) (params o₀ o₁ o₂ : List ℕ) (room : length params + 6 ≤ length o₀)
    (e₁ : o₁ ≡ overwritten o₀ (front id (length params + 2) instruction)) (e₂ : o₂ ≡ placed o₁ 5 (take (length o₁ - 5) params)) where
  abbrev f : List ℕ
  f = front id (length params + 2) instruction

  fronted : o₂ ≡ overwritten o₀ (f ++ params)
  fronted =
      e₂ ∙ ap (λ (o : List ℕ). placed o 5 (take (length o - 5) params)) e₁
      ∙ ap (λ (s : List ℕ). f ++ overwritten (drop 5 o₀) s)
      (take_all (length (overwritten o₀ f) - 5) params (simp length-drop (omega arith)))
      ∙ overwritten_parts o₀ f params

  -- and the checksum at the end
  pub packet_written : (sum : ℕ) → sum ≡ checksum_of (id ∷ (length params + 2) ∷ instruction ∷ params)
      → set o₂ (length params + 5) sum ≡ overwritten o₀ (packet_of id (instruction ∷ params))
  unfolding packet_of
  packet_written sum e₃ =
      let k : length params + 5 ≡ length (f ++ params) = simp length-append (omega arith) in
      let n : length params + 2 ≡ length (instruction ∷ params) + 1 = omega arith in
      ap (λ (o : List ℕ). set o (length params + 5) sum) fronted
      ∙ ap (λ (i : ℕ). set (overwritten o₀ (f ++ params)) i sum) k
      ∙ set_next o₀ (f ++ params) sum (omega (arith, k))
      ∙ ap (λ (x : ℕ). overwritten o₀ ((f ++ params) ++ x ∷ [])) e₃
      ∙ ap (λ (m : ℕ). overwritten o₀ ((front id m instruction ++ params) ++ checksum_of (id ∷ m ∷ instruction ∷ params) ∷ [])) n
