-- Every packet begins with FF, so noise without FF reaches nowhere.
use mathlib.Core.Path.{◌≡◌, ap}
use mathlib.Core.List.{List, [], ◌∷◌}
use Prim.Native.Nat.{ℕ}
use native.Mathlib.Omega.{arith}
use lib.ListN.{take}
use Rattle.reading.specs.Across.{NoneWithout}
use Rattle.reading.proofs.Across.{none_without}
use Rattle.packet_front.specs.Front.{header}
use Rattle.packet.specs.Verdict.{protocol2}

begins : (w : List ℕ) → take 4 w ≡ header → (t : List ℕ) × (w ≡ 0xFF ∷ t)
begins [] e = let z : ◌≡◌ {A = ℕ} 0 1 = cc in absurd (omega arith)
begins (b ∷ t) e = let h : b ≡ 0xFF = cc in (t, ap (λ (a : ℕ). a ∷ t) h)

pub none_without_ff : NoneWithout protocol2 0xFF
none_without_ff = none_without protocol2 0xFF (λ w f. begins w f.headed)
