-- Feeding and gap calls, by themselves and on a board; the plain reader's events.
use Rattle.std.specs.Prelude.{None, Option, Some}
use mathlib.Core.Path.{◌≡◌, refl}
use mathlib.Core.Bool.{Bool, true, false}
use mathlib.Core.List.{List, [], append-nil}
use Prim.Native.Nat.{ℕ, ◌-◌, ◌≤◌, max}
use native.Mathlib.Omega.{arith}
use borrow.Author.Tests.{leb-true}
use lib.Dec.{leb}
use lib.ListN.{length, length-take}
use Rattle.reading.specs.Rules.{Rules, Laws}
use Rattle.reading.specs.Reading.{Event, packet, bad_checksum, closed}
use Rattle.reading.specs.Calls.{Call, feed, gap, First, event, silent, gapped, first, call, CallResult}
use Rattle.reading.specs.Lists.{chunk_of}
use Rattle.reading.proofs.Fewest.{fed_fewest}
use Rattle.reading.proofs.Held.{held_bound, packet_good}
use Rattle.reading.proofs.Progress.{packet_short}
use Rattle.packet_protocols.specs.declared.Protocol.{Protocol}
use Rattle.packet_protocols.specs.declared.Protocol.TheVariants.{Two, One, Mercury}
use Rattle.packet_protocols.specs.Protocols.{rules_of}
use Rattle.packet_protocols.proofs.Shapes.{laws}
use Rattle.reader_core.specs.Results.{most_held, event_for}
use Rattle.reader_records.specs.declared.Reader.{Reader}
use Rattle.reader_records.specs.Records.{held_in, step_in, left_in}
use Rattle.reader_plain.specs.declared.Event.{Event as Event-of-segment}
use Rattle.reader_plain.specs.declared.Event.TheVariants.{Packet, BadChecksum}
use Rattle.reader_plain.specs.Next.{next_event}
use Rattle.reader_plain.specs.Plain.{Within}
use Rattle.reader_plain.proofs.Plain.{within}
use Rattle.numbers.specs.Exported.{event_numbers, step_numbers, next_numbers}
use Rattle.fits.specs.Fits.{StepFits, StepsFit, EventFits}

-- ---- the calls of the rules

module _ (R : Rules) (L : Laws R) (h : List ℕ) where
  gap_takes : (f : First) → (gapped f).taken ≤ 0
  gap_takes (event e t) = omega arith
  gap_takes (silent t) = omega arith

  pub takes : (c : Call) → (call R h c).taken ≤ length (chunk_of c)
  unfolding call
  takes (feed s) = (fed_fewest R h s).within
  takes gap = gap_takes (first R closed h)

  pub packet_fits : (c : Call) (w : List ℕ) → (call R h c).answer ≡ Some (packet w) → length w ≤ R.longest
  packet_fits c w e = packet_short R L w (length w) (rw append-nil at (L.whole w [] (packet_good R L h c w e)))

-- ---- on a record

module _ (p : Protocol) (r : Reader) (c : Call) where
  abbrev result : CallResult
  result = call (rules_of p) (held_in r) c

  told_taken : (n : ℕ) (a : Option Event) → (event_numbers n (event_for p a)).taken ≡ n
  told_taken n None = refl
  told_taken n (Some (packet w)) = refl
  told_taken n (Some (bad_checksum id)) = refl

  told_count : (n : ℕ) (a : Option Event) → result.answer ≡ a → (event_numbers n (event_for p a)).count ≤ (rules_of p).longest
  told_count n None e = omega arith
  told_count n (Some (packet w)) e = packet_fits (rules_of p) (laws p) (held_in r) c w e
  told_count n (Some (bad_checksum id)) e = omega arith

  step_taken : (b : Bool) → leb r.count (most_held p) ≡ b → (step_numbers (step_in p r c)).taken ≤ length (chunk_of c)
  unfolding step_in
  step_taken true e = rw (e, told_taken result.taken result.answer) (takes (rules_of p) (laws p) (held_in r) c)
  step_taken false e = rw e (omega arith)

  step_count : (b : Bool) → leb r.count (most_held p) ≡ b → (step_numbers (step_in p r c)).count ≤ (rules_of p).longest
  unfolding step_in
  step_count true e = rw e (told_count result.taken result.answer refl)
  step_count false e = rw e (omega arith)

  left_count : (b : Bool) → leb r.count (most_held p) ≡ b → (left_in p r c).count ≤ max r.count (most_held p)
  unfolding step_in left_in
  left_count true e =
      let l = leb-true r.count (most_held p) e in
      let k = held_bound (rules_of p) (laws p) (held_in r) c (simp length-take (omega (arith, l))) in
      rw e (omega (arith, k))
  left_count false e = rw e (omega arith)

-- Here and in the other files each bound follows from its law by arithmetic: a statement that says less is refused by its application
-- alone.
step_fits : (p : Protocol) (longest most : ℕ) → (rules_of p).longest ≤ longest → most_held p ≤ most → StepFits p longest most
step_fits p longest most l m =
    record {
      taken = λ r c. let k = step_taken p r c (leb r.count (most_held p)) refl in omega (arith, k);
      count = λ r c. let k = step_count p r c (leb r.count (most_held p)) refl in omega (arith, k, l);
      held = λ r c. let k = left_count p r c (leb r.count (most_held p)) refl in omega (arith, k, m);
    }

pub steps_fit : StepsFit
steps_fit =
    record {
      two = step_fits Two _ _ (leb-true _ _ refl) (leb-true _ _ refl);
      one = step_fits One _ _ (leb-true _ _ refl) (leb-true _ _ refl);
      mercury = step_fits Mercury _ _ (leb-true _ _ refl) (leb-true _ _ refl);
    }

-- ---- the plain reader

module _ (s : List ℕ) (from : ℕ) where
  by_offset : (n : Option Event-of-segment) → Within s from n → (next_numbers n).offset ≤ length s
  by_offset (Some (Packet p n q id)) w = omega (arith, w.1, w.2)
  by_offset (Some (BadChecksum p q id)) w = omega (arith, w.1, w.2)
  by_offset None w = omega arith

  by_count : (n : Option Event-of-segment) → Within s from n → (next_numbers n).count ≤ length s
  by_count (Some (Packet p n q id)) w = omega (arith, w.2, w.3)
  by_count (Some (BadChecksum p q id)) w = omega arith
  by_count None w = omega arith

  by_next : (n : Option Event-of-segment) → Within s from n → (next_numbers n).next ≤ length s
  by_next (Some (Packet p n q id)) w = w.2
  by_next (Some (BadChecksum p q id)) w = w.2
  by_next None w = omega arith

pub event_fits : EventFits
event_fits =
    record {
      offset = λ s from. let k = by_offset s from (next_event s from) (within s from) in omega (arith, k);
      count = λ s from. let k = by_count s from (next_event s from) (within s from) in omega (arith, k);
      next = λ s from. let k = by_next s from (next_event s from) (within s from) in omega (arith, k);
    }
