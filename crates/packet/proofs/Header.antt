-- Bytes that begin with the header: the header and those after it.
use mathlib.Core.Path.{◌≡◌, sym, ap, ◌∙◌}
use mathlib.Core.List.{List, ◌++◌}
use Prim.Native.Nat.{ℕ, ◌+◌, ◌-◌, ◌≤◌}
use native.Mathlib.Omega.{arith}
use lib.ListN.{length, take, drop, get_or, length-drop, take-append-drop}
use lib.Seq.{take-append-add, get_or-append-add, get_or-drop}
use Rattle.packet_front.specs.Front.{header}

-- a list that begins with the header is the header and the rest
pub headed : (s : List ℕ) → take 4 s ≡ header → header ++ drop 4 s ≡ s
headed s e = ap (λ (l : List ℕ). l ++ drop 4 s) (sym e) ∙ take-append-drop 4 s

-- the header in the place of the first four bytes: as many bytes, and those behind them stay
module _ (s : List ℕ) where
  pub headed_length : 4 ≤ length s → length (header ++ drop 4 s) ≡ length s
  headed_length h = simp length-drop (omega arith)

  pub headed_byte : (i : ℕ) → 4 ≤ i → get_or (header ++ drop 4 s) i 0 ≡ get_or s i 0
  headed_byte i h =
      let z : 4 + (i - 4) ≡ i = omega arith in
      ap (λ (k : ℕ). get_or (header ++ drop 4 s) k 0) (sym z)
      ∙ get_or-append-add header (drop 4 s) (i - 4) 0
      ∙ get_or-drop 4 s (i - 4) 0
      ∙ ap (λ (k : ℕ). get_or s k 0) z

  pub headed_part : (n : ℕ) → 4 ≤ n → take n (header ++ drop 4 s) ≡ header ++ take (n - 4) (drop 4 s)
  headed_part n h =
      let z : 4 + (n - 4) ≡ n = omega arith in
      ap (λ (k : ℕ). take k (header ++ drop 4 s)) (sym z) ∙ take-append-add header (drop 4 s) (n - 4)

pub after_header : (s : List ℕ) (n : ℕ) → take 4 s ≡ header → 4 ≤ n → header ++ take (n - 4) (drop 4 s) ≡ take n s
after_header s n e h = sym (headed_part s n h) ∙ ap (take n) (headed s e)
