-- The three steps of writing a packet make the packet.
use mathlib.Core.Path.{◌≡◌, ap, ◌∙◌}
use mathlib.Core.List.{List, ◌∷◌, ◌++◌}
use Prim.Native.Nat.{ℕ, ◌+◌, ◌-◌, ◌≤◌}
use native.Mathlib.Omega.{arith}
use lib.ListN.{length, take, drop, set, get_or, length-append, length-drop}
use lib.Seq.{take_all}
use Rattle.lists.specs.Write.{overwritten, placed}
use Rattle.lists.proofs.Write.{overwritten_take, overwritten_parts, overwritten_more}
use Rattle.stuffing.specs.Stuffing.{stuff}
use Rattle.stuffing.proofs.Laws.{length_stuff}
use Rattle.packet_front.specs.Front.{header}
use Rattle.packet_encoder.specs.Writing.{front, with_checksum, packet_of}
use Rattle.packet_encoder.proofs.Lists.{set_here, set_under}

pub packet_length : (id : ℕ) (body : List ℕ) → length (packet_of id body) ≡ length (stuff body) + 9
unfolding packet_of with_checksum
packet_length id body = simp length-append (omega arith)

-- behind the front that is written stands the instruction
pub begins : (id n i : ℕ) (o₀ o₁ : List ℕ) → 8 ≤ length o₀ → o₁ ≡ overwritten (set o₀ 7 i) (front id n)
    → get_or (take (length o₁ - 7) (drop 7 o₁)) 0 0 ≡ i
begins id n i o₀ o₁ h e =
    let d : drop 7 o₁ ≡ i ∷ drop 8 o₀ = ap (drop 7) e ∙ set_here o₀ 7 i (omega arith) in
    ap (λ (s : List ℕ). get_or s 0 0) (take_all (length o₁ - 7) (drop 7 o₁) (simp length-drop (omega arith)) ∙ d)

pub some_stuffed : (i : ℕ) (s : List ℕ) → 1 ≤ length (stuff (i ∷ s))
some_stuffed i s = let l = length_stuff (i ∷ s) in omega arith

-- o₀ the buffer, o₁ with front and instruction written, o₂ with the stuffed body after the front
module _ (id n i : ℕ) (body o₀ o₁ o₂ : List ℕ) (is : n ≡ length body) (room : n + 9 ≤ length o₀) (some : 1 ≤ length body)
    (e₁ : o₁ ≡ overwritten (set o₀ 7 i) (front id n)) (e₂ : o₂ ≡ placed o₁ 7 body) where
  fronted : o₂ ≡ overwritten o₀ (front id n ++ body)
  fronted =
      e₂
      ∙ ap (λ (o : List ℕ). placed o 7 body) e₁
      ∙ overwritten_parts (set o₀ 7 i) (front id n) body
      ∙ set_under o₀ 7 i (front id n ++ body) (simp length-append (omega arith))

  pub packet_headed : take 4 o₂ ≡ header
  packet_headed = rw fronted

  covered : take (n + 7) o₂ ≡ front id n ++ body
  covered =
      let k : n + 7 ≡ length (front id n ++ body) = simp length-append (omega arith) in
      rw (k, fronted) (overwritten_take o₀ (front id n ++ body))

  -- and the checksum at the end
  pub packet_written : (o₃ : List ℕ) → o₃ ≡ overwritten o₂ (with_checksum (take (n + 7) o₂))
      → o₃ ≡ overwritten o₀ (with_checksum (front id (length body) ++ body))
  unfolding with_checksum
  packet_written o₃ e₃ =
      e₃ ∙ ap (λ (s : List ℕ). overwritten o₂ (with_checksum s)) covered
      ∙ ap (λ (o : List ℕ). overwritten o (with_checksum (front id n ++ body))) fronted
      ∙ overwritten_more o₀ (front id n ++ body) _
      ∙ ap (λ (k : ℕ). overwritten o₀ (with_checksum (front id k ++ body))) is
