-- What is asked of a shape, so that its rules keep the laws of packet rules.
use mathlib.Core.Path.{◌≡◌}
use mathlib.Core.Bool.{true}
use mathlib.Core.List.{List, ◌++◌}
use Prim.Native.Nat.{ℕ, ◌≤◌, ◌<◌}
use lib.ListN.{length}
use Rattle.reading.specs.Rules.{is_packet, is_waiting}
use Rattle.packet_rules.specs.Shape.{Shape}

pub record ShapeLaws (S : Shape) : Type 0 where
  pub some : 0 < S.front
  pub fronted : S.front ≤ S.shortest
  pub ordered : S.shortest ≤ S.longest
  -- what agrees has agreed from the first byte on, and after the front no byte changes that, nor the size
  pub agrees_before : (a b : List ℕ) → S.agrees (a ++ b) ≡ true → S.agrees a ≡ true
  pub agrees_same : (a b : List ℕ) → S.front ≤ length a → S.agrees (a ++ b) ≡ S.agrees a
  pub size_same : (a b : List ℕ) → S.front ≤ length a → S.size (a ++ b) ≡ S.size a
  pub bounds : (s : List ℕ) → S.agrees s ≡ true → S.front ≤ length s → (S.shortest ≤ S.size s) × (S.size s ≤ S.longest)
  -- all the bytes of a packet never wait, and if they are one they are all of it
  pub never_waits : (w : List ℕ) → ¬ (S.judged w ≡ is_waiting)
  pub all_of_it : (w : List ℕ) (n : ℕ) → S.judged w ≡ is_packet n → length w ≡ n
  -- well-formed is what passes these tests, and nothing else is
  pub formed : (w : List ℕ) → S.agrees w ≡ true → S.front ≤ length w → length w ≡ S.size w → S.judged w ≡ is_packet (length w)
      → S.WellFormed w
  pub passing : (w : List ℕ) → S.WellFormed w
      → (S.agrees w ≡ true) × (S.front ≤ length w) × (length w ≡ S.size w) × (S.judged w ≡ is_packet (length w))
