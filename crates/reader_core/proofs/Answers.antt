-- What the parts of a call come to is what the call answers and leaves, once the buffers' ends are cleared.
use Rattle.std.specs.Prelude.{None, Ok, Option, Some}
use mathlib.Core.Path.{◌≡◌, refl, sym, ap, ap₂, ◌∙◌}
use mathlib.Core.List.{List, ◌++◌}
use Prim.Native.Nat.{ℕ, ◌-◌, ◌≤◌, ◌<◌}
use native.Mathlib.Omega.{arith}
use borrow.Author.Tests.{le-leb}
use lib.ListN.{length, take, get_or, replicate}
use lib.Seq.{get_or-take}
use Rattle.lists.specs.Write.{padded}
use Rattle.reading.specs.Reading.{Event, packet, bad_checksum}
use Rattle.reading.specs.Calls.{CallResult, Call, call}
use Rattle.reading.proofs.Held.{packet_good}
use Rattle.packet_protocols.specs.declared.Protocol.{Protocol}
use Rattle.packet_protocols.specs.declared.Protocol.TheVariants.{Two, One, Mercury}
use Rattle.packet_protocols.specs.Protocols.{rules_of, id_offset, id_in}
use Rattle.packet_protocols.proofs.Shapes.{laws, id_at_lem}
use Rattle.reader_core.specs.declared.Step.{Step}
use Rattle.reader_core.specs.Results.{most_held, event_for, packet_bytes, step_for, held_for, packet_for}
use Rattle.reader_core.specs.Delivered.{event_with, size_in, Delivered}
use Rattle.reader_core.proofs.Deliveries.{size_is}

-- the buffer after its end is cleared
abbrev pub cleared : List ℕ → ℕ → List ℕ
cleared buffer n = take n buffer ++ replicate (length buffer - n) 0

pub cleared_is : (buffer new front : List ℕ) (n most : ℕ) → length buffer ≡ most → n ≡ length front → take n buffer ≡ front
    → new ≡ cleared buffer n → new ≡ padded most front
cleared_is buffer new front n most l i j e =
    e ∙ ap₂ (λ (s : List ℕ) (k : ℕ). s ++ replicate k 0) j (ap₂ (λ (x y : ℕ). x - y) l i)

-- ---- the event

-- a packet has its ID, and so has a buffer for the longest
id_inside : (p : Protocol) (w : List ℕ) → (rules_of p).WellFormed w → id_offset p < length w
id_inside Two w f = omega (arith, f.counted)
id_inside One w f = omega (arith, f.counted)
id_inside Mercury w f = omega (arith, f.counted)

pub id_short : (p : Protocol) → id_offset p < (rules_of p).longest
id_short Two = omega arith
id_short One = omega arith
id_short Mercury = omega arith

-- some bytes can be held
pub some_room : (p : Protocol) → 0 < most_held p
some_room Two = omega arith
some_room One = omega arith
some_room Mercury = omega arith

-- the buffer's ID is the packet's, which has so many bytes
event_is : (p : Protocol) (a : Option Event) (bytes : List ℕ) → ((w : List ℕ) → a ≡ Some (packet w) → (rules_of p).WellFormed w)
    → take (length (packet_bytes a)) bytes ≡ packet_bytes a → event_with (id_in p bytes) a ≡ event_for p a
event_is p None bytes g b = refl
event_is p (Some (bad_checksum id)) bytes g b = refl
event_is p (Some (packet w)) bytes g b =
    let h = id_inside p w (g w refl) in
    let e : id_in p bytes ≡ id_in p w =
    sym (id_at_lem p bytes) ∙ sym (get_or-take (length w) bytes (id_offset p) 0 h) ∙ ap (λ (s : List ℕ). get_or s (id_offset p) 0) b ∙ id_at_lem p w in
    rw e

-- ---- the call

of_fields : (step step' : Step) → step.taken ≡ step'.taken → step.held ≡ step'.held → step.event ≡ step'.event
    → step ≡ step'
of_fields step step' i j k = λ x. record { taken = i x; held = j x; event = k x }

abbrev Answered : (p : Protocol) (count : ℕ) (r : CallResult) (held bytes : List ℕ) (step : Step) (held' bytes' : List ℕ) → Type 0
Answered p count r held bytes step held' bytes' =
    (Ok step ≡ step_for p count r) × (held' ≡ held_for p count held r) × (bytes' ≡ packet_for p count bytes r)

pub step_is : (p : Protocol) (count : ℕ) (h : List ℕ) (c : Call) (held bytes : List ℕ) (step : Step) → count ≤ most_held p
    → Delivered p (call (rules_of p) h c) step held bytes → Ok step ≡ step_for p count (call (rules_of p) h c)
step_is p count h c held bytes step l w =
    let r = call (rules_of p) h c in
    rw (le-leb count (most_held p) l)
    (ap Ok (of_fields step _ w.taken_is w.count_is
    (w.event_is ∙ event_is p r.answer bytes (packet_good (rules_of p) (laws p) h c) w.bytes_are)))

pub answered : (p : Protocol) (count : ℕ) (h : List ℕ) (c : Call) (held₀ bytes₀ held bytes held' bytes' : List ℕ) (step : Step)
    → count ≤ most_held p → length held ≡ most_held p → length bytes ≡ (rules_of p).longest → Delivered p (call (rules_of p) h c) step held bytes
    → (held' ≡ cleared held step.held) × (bytes' ≡ cleared bytes (size_in step.event))
    → Answered p count (call (rules_of p) h c) held₀ bytes₀ step held' bytes'
answered p count h c held₀ bytes₀ held bytes held' bytes' step l m n w e =
    let r = call (rules_of p) h c in
    let size : size_in step.event ≡ length (packet_bytes r.answer) =
    ap size_in w.event_is ∙ size_is (id_in p bytes) r.answer in
    let front = ap (λ (k : ℕ). take k bytes) size ∙ w.bytes_are in
    let event = w.event_is ∙ event_is p r.answer bytes (packet_good (rules_of p) (laws p) h c) w.bytes_are in
    rw (le-leb count (most_held p) l) (
      ap Ok (of_fields step _ w.taken_is w.count_is event),
      cleared_is held held' r.held step.held (most_held p) m w.count_is w.held_is e.0,
      cleared_is bytes bytes' (packet_bytes r.answer) (size_in step.event) (rules_of p).longest n size front e.1,
    )
