-- A full buffer and one byte more.
use mathlib.Core.Path.{◌≡◌, sym, ap, ap₂, ◌∙◌}
use mathlib.Core.List.{List, [], ◌∷◌, ◌++◌}
use Prim.Native.Nat.{ℕ, suc, ◌+◌, ◌-◌, ◌<◌}
use native.Mathlib.Omega.{arith}
use lib.ListN.{length, take, drop, set, length-append, length-drop, drop_of_length-le}
use lib.Seq.{take_all, take_at, length-take-le, drop-append-le, set_split}
use Rattle.lists.specs.Write.{overwritten, placed}
use Rattle.buffers.proofs.Parts.{placed_whole}

module _ (held : List ℕ) (b : ℕ) (n : ℕ) (e : n ≡ length held) where
  -- in a buffer with room for it
  pub longest_placed : (old placed' : List ℕ) → placed' ≡ placed old 0 (take (length old - 0) (take n held))
      → length old ≡ length held + 1 → set placed' n b ≡ held ++ b ∷ []
  longest_placed old placed' p l =
      let whole : take n held ≡ held = take_all n held (omega arith) in
      let q : placed' ≡ held ++ drop (length held) old =
      p ∙ ap (λ (s : List ℕ). placed old 0 (take (length old - 0) s)) whole ∙ placed_whole old held 0 (omega arith) in
      let m : length placed' ≡ n + 1 = ap length q ∙ simp (length-append, length-drop) (omega arith) in
      set_split placed' n b (omega arith)
      ∙ ap₂ (λ (x y : List ℕ). x ++ b ∷ y) (ap (λ (s : List ℕ). take n s) q ∙ take_at held (drop (length held) old) n (sym e))
      (drop_of_length-le placed' {i = suc n} (omega arith))

  -- and in itself, without its first
  pub longest_held : (moved : List ℕ) → moved ≡ overwritten held (take (n - 1) (drop 1 held)) → 0 < n
      → set moved (n - 1) b ≡ drop 1 (held ++ b ∷ [])
  longest_held moved p h =
      let part = take (n - 1) (drop 1 held) in
      let k : length part ≡ n - 1 = length-take-le (n - 1) (drop 1 held) (simp length-drop (omega arith)) in
      let whole : part ≡ drop 1 held = take_all (n - 1) (drop 1 held) (simp length-drop (omega arith)) in
      let m : length moved ≡ n = ap length p ∙ simp (length-append, length-drop) (omega arith) in
      set_split moved (n - 1) b (omega arith)
      ∙ ap₂ (λ (x y : List ℕ). x ++ b ∷ y)
      (ap (λ (s : List ℕ). take (n - 1) s) p ∙ take_at part (drop (length part) held) (n - 1) k ∙ whole)
      (drop_of_length-le moved {i = suc (n - 1)} (omega arith))
      ∙ sym (drop-append-le 1 held (b ∷ []) (omega arith))
