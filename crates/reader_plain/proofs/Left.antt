-- The events that are left from an offset on, as the answer from there tells them: for loops over the events of a segment.
use Rattle.std.specs.Prelude.{None, Option, Some}
use mathlib.Core.Path.{◌≡◌, refl, ap, ◌∙◌}
use mathlib.Core.Bool.{true}
use mathlib.Core.List.{List, [], ◌∷◌}
use Prim.Native.Nat.{ℕ, zero, suc, ◌+◌, ◌-◌, ◌≤◌}
use native.Mathlib.Omega.{arith}
use lib.ListN.{length, drop}
use Rattle.reading.specs.Rules.{Verdict, is_packet, is_bad_checksum, is_waiting, is_nothing}
use Rattle.reading.specs.Reading.{packet, bad_checksum, EventAt, closed, at_offset, read_fuel, read_from}
use Rattle.packet_front.specs.Front.{id_of, good_id}
use Rattle.packet.specs.Verdict.{protocol2}
use Rattle.packet.proofs.Laws.{laws}
use Rattle.reader_plain.specs.declared.Event.{Event}
use Rattle.reader_plain.specs.declared.Event.TheVariants.{Packet, BadChecksum}
use Rattle.reader_plain.specs.Next.{first_of, next_event}
use Rattle.reader_plain.proofs.Plain.{Goes, goes, reached}

abbrev pub left : List ℕ → ℕ → List EventAt
left s from = read_from protocol2 closed from (drop from s)

-- by the answer: its event is the first that is left, and the others are left where it says that reading goes on
abbrev pub Left : List ℕ → ℕ → Option Event → Type 0
Left s from (Some (Packet p n q id)) = (w : List ℕ) × (id_of w ≡ id) × (left s from ≡ (p, packet w) ∷ left s q)
Left s from (Some (BadChecksum p q id)) = left s from ≡ (p, bad_checksum id) ∷ left s q
Left s from None = left s from ≡ []

pub left_is : (s : List ℕ) (from : ℕ) → Left s from (next_event s from)
unfolding next_event Goes
left_is s from = by_first (left s from) refl (goes from (drop from s))
  where
    behind : (q : ℕ) (fs : List EventAt) → from ≤ q → fs ≡ read_from protocol2 closed q (drop (q - from) (drop from s)) → fs ≡ left s q
    behind q fs h e = e ∙ ap (read_from protocol2 closed q) (reached s from q h)

    by_first : (l : List EventAt) → left s from ≡ l → Goes from (drop from s) l → Left s from (first_of l)
    by_first [] e g = e
    by_first ((q, packet w) ∷ fs) e g =
        (w, refl, e ∙ ap {B = List EventAt} (λ (l : List EventAt). (q, packet w) ∷ l) (behind (q + length w) fs (omega (arith, g.1)) g.2))
    by_first ((q, bad_checksum id) ∷ fs) e g =
        e ∙ ap {B = List EventAt} (λ (l : List EventAt). (q, bad_checksum id) ∷ l) (behind (q + 1) fs (omega (arith, g.1)) g.2)

-- the packets of a reading have IDs that packets may have
unfoldable pub GoodIds : List EventAt → Type 0
GoodIds [] = Unit {0}
GoodIds ((p, packet w) ∷ fs) = (good_id (id_of w) ≡ true) × GoodIds fs
GoodIds ((p, bad_checksum id) ∷ fs) = GoodIds fs

good_fuel : (fuel p : ℕ) (s : List ℕ) → GoodIds (read_fuel protocol2 closed fuel p s)
unfolding read_fuel GoodIds
good_fuel zero p s = tt
good_fuel (suc fuel) p [] = tt
good_fuel (suc fuel) p (b ∷ s) = by_verdict (protocol2.verdict (b ∷ s)) refl (λ q t. good_fuel fuel q t)
  where
    by_verdict : (v : Verdict) → protocol2.verdict (b ∷ s) ≡ v → ((q : ℕ) (t : List ℕ) → GoodIds (read_fuel protocol2 closed fuel q t))
        → GoodIds (at_offset closed v p (b ∷ s) (λ q t. read_fuel protocol2 closed fuel q t))
    by_verdict (is_packet n) e go = ((laws.sound (b ∷ s) n e).2.identified, go (p + n) (drop n (b ∷ s)))
    by_verdict (is_bad_checksum id) e go = go (p + 1) s
    by_verdict is_nothing e go = go (p + 1) s
    by_verdict is_waiting e go = go (p + 1) s

pub good_ids : (p : ℕ) (s : List ℕ) → GoodIds (read_from protocol2 closed p s)
unfolding read_from
good_ids p s = good_fuel (length s) p s
