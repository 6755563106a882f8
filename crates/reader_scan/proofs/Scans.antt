-- One round of the scan: the offset is passed, or the first event or the waiting offset has been found.
use mathlib.Core.Path.{◌≡◌, sym, ap, ◌∙◌}
use mathlib.Core.List.{List, []}
use Prim.Native.Nat.{ℕ, ◌+◌, ◌≤◌, ◌<◌}
use native.Mathlib.Omega.{arith}
use lib.ListN.{length, take, drop, length-drop, drop_of_length-le}
use lib.Seq.{drop-drop, drop-length}
use Rattle.reading.specs.Rules.{Rules, Laws, Undecided, is_packet, is_bad_checksum, is_waiting, is_nothing}
use Rattle.reading.specs.Rules.{Verdict}
use Rattle.reading.specs.Reading.{Mode, open', closed, packet, bad_checksum}
use Rattle.reading.specs.Calls.{silent, first_at, first}
use Rattle.reading.proofs.Progress.{first_at_lem, first_none, first_few, waiting_patient, packet_short}
use Rattle.reading.proofs.Ahead.{NoneBegins, first_past}
use Rattle.reading.specs.Progress.{Patient}
use Rattle.reader_scan.specs.Scan.{Decides, Waits}

module _ (R : Rules) (L : Laws R) (m : Mode) (s : List ℕ) (from at : ℕ) (begins : from ≤ at)
    (inv : first R m (drop from s) ≡ first R m (drop at s)) where
  here : (v : Verdict) → at < length s → R.verdict (drop at s) ≡ v
      → first R m (drop from s) ≡ first_at m v (drop at s) (first R m (drop (at + 1) s))
  here v h e =
      inv ∙ first_at_lem R m (drop at s) v (simp length-drop (omega arith)) e
      ∙ ap (λ (l : List ℕ). first_at m v (drop at s) (first R m l)) (drop-drop 1 at s)

  pub scan_packet : (n : ℕ) → at < length s → R.verdict (drop at s) ≡ is_packet n
      → Decides R m s from at (at + n) (packet (take n (drop at s)))
  scan_packet n h e =
      let g = L.sound (drop at s) n e in
      record {
        begins = begins;
        moves = omega arith;
        fits = omega (arith, length-drop at s);
        short = omega (arith, packet_short R L (drop at s) n e);
        first_is = here (is_packet n) h e ∙ rw (drop-drop n at s);
      }

  pub scan_bad : (id : ℕ) → 0 < R.longest → at < length s → R.verdict (drop at s) ≡ is_bad_checksum id
      → Decides R m s from at (at + 1) (bad_checksum id)
  scan_bad id l h e =
      record {
        begins = begins;
        moves = omega arith;
        fits = omega arith;
        short = omega arith;
        first_is = here (is_bad_checksum id) h e ∙ rw (drop-drop 1 at s);
      }

  pub scan_nothing : at < length s → R.verdict (drop at s) ≡ is_nothing → first R m (drop from s) ≡ first R m (drop (at + 1) s)
  scan_nothing h e = here is_nothing h e

  pub scan_end : length s ≤ at → at ≤ length s → Waits R m s from at
  scan_end h k =
      let z : drop at s ≡ [] = drop_of_length-le s h in
      record { begins = begins; fits = k; first_is = inv ∙ rw z (first_none R m) }

-- an open segment stops at a waiting offset, a closed one passes it
module _ (R : Rules) (L : Laws R) (s : List ℕ) (from at : ℕ) (begins : from ≤ at) (h : at < length s)
    (e : R.verdict (drop at s) ≡ is_waiting) where
  pub scan_waits : first R open' (drop from s) ≡ first R open' (drop at s) → Waits R open' s from at
  scan_waits inv =
      record { begins = begins; fits = omega arith; first_is = here R L open' s from at begins inv is_waiting h e }

  pub scan_wants : (k : ℕ) → R.lacks (drop at s) ≡ k → Patient R (drop at s) k
  scan_wants k l = rw (← l) (waiting_patient R L (drop at s) e)

  pub scan_past : first R closed (drop from s) ≡ first R closed (drop at s)
      → first R closed (drop from s) ≡ first R closed (drop (at + 1) s)
  scan_past inv = here R L closed s from at begins inv is_waiting h e

-- k offsets at which no packet begins are passed
module _ (R : Rules) (settled : List ℕ → ℕ) (s : List ℕ) (at k : ℕ)
    (n : (q : ℕ) → q < k → NoneBegins R settled (drop q (drop at s))) where
  pub scan_none : (m : Mode) → k ≤ length (drop at s) → first R m (drop at s) ≡ first R m (drop (at + k) s)
  scan_none m h = first_past R m (drop at s) k (λ q i. (n q i).0) h ∙ ap (λ (l : List ℕ). first R m l) (drop-drop k at s)

-- a closed segment of which fewer bytes are left than decide an event
module _ (R : Rules) (s : List ℕ) (at n : ℕ) (q : (u : List ℕ) → length u < n → Undecided (R.verdict u)) where
  pub scan_few : first R closed s ≡ first R closed (drop at s) → length (drop at s) < n → Waits R closed s 0 (length s)
  scan_few inv h =
      record {
        begins = omega arith;
        fits = omega arith;
        first_is = inv ∙ first_few R n q (drop at s) h ∙ ap silent (sym (drop-length s));
      }
