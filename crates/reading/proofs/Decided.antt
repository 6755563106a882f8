-- Packets that are written out are well-formed by the verdict on each.
use mathlib.Core.Path.{◌≡◌, sym, subst}
use mathlib.Core.List.Memᴰ
use mathlib.Core.List.{List, [], ◌∷◌}
use mathlib.Core.Logic.{⊎_elim}
use Prim.Native.Nat.{ℕ}
use lib.ListN.{length}
use lib.Seq.{take-length}
use Rattle.reading.specs.Rules.{is_packet, Rules, Laws}
use Rattle.reading.specs.Promise.{AllWellFormed}

abbrev pub EachPacket : Rules → List (List ℕ) → Type 0
EachPacket R [] = Unit {0}
EachPacket R (w ∷ ws) = (R.verdict w ≡ is_packet (length w)) × EachPacket R ws

module _ (R : Rules) (L : Laws R) where
  pub well : (w : List ℕ) → R.verdict w ≡ is_packet (length w) → R.WellFormed w
  well w e = subst R.WellFormed (take-length w) (L.sound w (length w) e).2

  pub all_well : (ws : List (List ℕ)) → EachPacket R ws → AllWellFormed R ws
  all_well [] e w m = absurd (Memᴰ.not-nil m)
  all_well (v ∷ ws) e w m =
      ⊎_elim (λ i. subst R.WellFormed (sym i) (well v e.0)) (λ n. all_well ws e.1 w n) (Memᴰ.cases_cons m)
