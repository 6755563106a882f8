-- One event after the other: what a loop over the events of a segment has before it and behind it.
use Rattle.std.specs.Prelude.{None, Option, Some, map}
use mathlib.Core.Path.{◌≡◌, refl, sym, ap, subst, ◌∙◌}
use mathlib.Core.Bool.{Bool, true, false, cond}
use mathlib.Core.List.{List, [], ◌∷◌}
use Prim.Native.Nat.{ℕ}
use lib.Dec.{eqb}
use lib.ListN.{set}
use Rattle.reading.specs.Reading.{EventAt, packet, bad_checksum, reading}
use Rattle.packet_front.specs.Front.{id_of}
use Rattle.packet.specs.Verdict.{protocol2}
use Rattle.reader_plain.specs.declared.Event.{Event}
use Rattle.reader_plain.specs.declared.Event.TheVariants.{Packet, BadChecksum}
use Rattle.reader_plain.specs.Next.{next_of, first_of, next_event}
use Rattle.reader_plain.proofs.Left.{left, Left, left_is}
use Rattle.log_index.specs.Events.{events_left}
use Rattle.log_index.specs.Last.{later, last_packet, last_in, mark_of}
use Rattle.log_index.specs.Marks.{marked}

-- ---- the events that are left, by the next one

abbrev pub next_at : Event → ℕ
next_at (Packet p n q id) = q
next_at (BadChecksum p q id) = q

first_is : (s : List ℕ) (from : ℕ) → next_event s from ≡ first_of (left s from)
unfolding next_event
first_is s from = refl

pub none_left : (s : List ℕ) (from : ℕ) → next_event s from ≡ None → events_left s from ≡ []
none_left s from e = ap (map next_of) (subst (Left s from) e (left_is s from))

pub one_left : (s : List ℕ) (from : ℕ) (event : Event) → next_event s from ≡ Some event → events_left s from ≡ event ∷ events_left s (next_at event)
one_left s from (Packet p n q id) e =
    let l = subst (Left s from) e (left_is s from) in
    let f : Some (next_of (p, packet l.0)) ≡ Some (Packet p n q id) = sym (first_is s from ∙ ap first_of l.2) ∙ e in
    let k : next_of (p, packet l.0) ≡ Packet p n q id = cc in
    ap (map next_of) l.2 ∙ ap (λ (x : Event). x ∷ events_left s q) k
one_left s from (BadChecksum p q id) e =
    let l = subst (Left s from) e (left_is s from) in
    let f : Some (next_of (p, bad_checksum id)) ≡ Some (BadChecksum p q id) = sym (first_is s from ∙ ap first_of l) ∙ e in
    let k : next_of (p, bad_checksum id) ≡ BadChecksum p q id = cc in
    ap (map next_of) l ∙ ap (λ (x : Event). x ∷ events_left s q) k

-- ---- marks and the last packet by such events

abbrev pub marked_by : ℕ → List ℕ → List Event → List ℕ
marked_by number index [] = index
marked_by number index (Packet p n q id ∷ es) = marked_by number (set index (mark_of id) number) es
marked_by number index (BadChecksum p q id ∷ es) = marked_by number index es

by_events : (number : ℕ) (fs : List EventAt) (index : List ℕ) → marked number index fs ≡ marked_by number index (map next_of fs)
unfolding marked
by_events number [] index = refl
by_events number ((p, packet w) ∷ fs) index = by_events number fs (set index (mark_of (id_of w)) number)
by_events number ((p, bad_checksum id) ∷ fs) index = by_events number fs index

pub marked_start : (number : ℕ) (index s : List ℕ) → marked number index (reading protocol2 s) ≡ marked_by number index (events_left s 0)
unfolding reading
marked_start number index s = by_events number (left s 0) index

-- the last of these packets, or what was found before
abbrev pub last_by : ℕ → Option ℕ → List Event → Option ℕ
last_by wanted last [] = last
last_by wanted last (Packet p n q id ∷ es) = last_by wanted (cond (eqb id wanted) (Some p) last) es
last_by wanted last (BadChecksum p q id ∷ es) = last_by wanted last es

later_last : (l : Option ℕ) (b : Bool) (p : ℕ) (last : Option ℕ) → later (later l (cond b (Some p) None)) last ≡ later l (cond b (Some p) last)
later_last None true p last = refl
later_last None false p last = refl
later_last (Some q) true p last = refl
later_last (Some q) false p last = refl

last_events : (wanted : ℕ) (fs : List EventAt) (last : Option ℕ) → later (last_packet wanted fs) last ≡ last_by wanted last (map next_of fs)
unfolding last_packet
last_events wanted [] last = refl
last_events wanted ((p, packet w) ∷ fs) last =
    let b = eqb (id_of w) wanted in later_last (last_packet wanted fs) b p last ∙ last_events wanted fs (cond b (Some p) last)
last_events wanted ((p, bad_checksum id) ∷ fs) last = last_events wanted fs last

or_none : (l : Option ℕ) → later l None ≡ l
or_none None = refl
or_none (Some p) = refl

pub last_start : (wanted : ℕ) (s : List ℕ) → last_in wanted s ≡ last_by wanted None (events_left s 0)
unfolding reading
last_start wanted s = sym (or_none (last_packet wanted (left s 0))) ∙ last_events wanted (left s 0) None
