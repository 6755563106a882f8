-- A step says what the result says, once the event's bytes and the held ones stand in their buffers.
use Rattle.std.specs.Prelude.{None, Option, Some}
use mathlib.Core.Path.{◌≡◌, refl, sym, ap, ap₂, subst, ◌∙◌}
use mathlib.Core.List.{List}
use Prim.Native.Nat.{ℕ, ◌+◌, ◌-◌, ◌≤◌}
use native.Mathlib.Omega.{arith}
use lib.ListN.{length, take, drop, length-drop}
use lib.Seq.{length-take-le, take_at, take-take}
use Rattle.lists.specs.Write.{overwritten, placed}
use Rattle.reading.specs.Reading.{Event, packet, bad_checksum}
use Rattle.packet_protocols.specs.declared.Protocol.{Protocol}
use Rattle.packet_protocols.specs.Protocols.{id_in}
use Rattle.reader_core.specs.declared.Event.{Event as Event-as-Code}
use Rattle.reader_core.specs.declared.Event.TheVariants.{Packet, BadChecksum}
use Rattle.reader_scan.specs.declared.Scanned.{Scanned}
use Rattle.reader_scan.specs.declared.Scanned.TheVariants.{Packet as Seen-as-Packet, BadChecksum as Seen-as-BadChecksum}
use Rattle.reader_scan.specs.declared.Scanned.TheVariants.{Waiting as Seen-as-Waiting}
use Rattle.reader_core.specs.declared.Step.{Step}
use Rattle.reader_scan.specs.Scan.{on_from, size_seen, answer_of, result_of}
use Rattle.reader_core.specs.Results.{packet_bytes}
use Rattle.reader_core.specs.Delivered.{event_with, size_in, Delivered, Stayed}
use Rattle.buffers.proofs.Parts.{part_is, placed_whole, overwritten_stays}

-- ---- where reading goes on, and the packet's bytes

module _ (v : Scanned) (most : ℕ) where
  pub on_packet : (at n : ℕ) → v ≡ Seen-as-Packet at n → on_from v ≤ most → at + n ≤ most
  on_packet at n e h = rw e at h

  pub size_packet : (at n : ℕ) → v ≡ Seen-as-Packet at n → size_seen v ≤ most → n ≤ most
  size_packet at n e h = rw e at h

-- what is placed at the start stands there
pub front : (old new buffer : List ℕ) (n : ℕ) → buffer ≡ overwritten old new → length new ≡ n → take n buffer ≡ new
front old new buffer n e l = ap (λ (b : List ℕ). take n b) e ∙ take_at new (drop (length new) old) n l

-- ---- the event

pub size_is : (id : ℕ) (a : Option Event) → size_in (event_with id a) ≡ length (packet_bytes a)
size_is id None = refl
size_is id (Some (packet w)) = refl
size_is id (Some (bad_checksum id')) = refl

module _ (p : Protocol) (src : List ℕ) (v : Scanned) (old bytes : List ℕ) where
  abbrev Reports : Option Event-as-Code → Type 0
  Reports e =
      (e ≡ event_with (id_in p bytes) (answer_of src v))
      × ((take (length (packet_bytes (answer_of src v))) bytes ≡ packet_bytes (answer_of src v))
      × (drop (length (packet_bytes (answer_of src v))) bytes ≡ drop (length (packet_bytes (answer_of src v))) old))

  pub reports_packet : (at n : ℕ) → v ≡ Seen-as-Packet at n → at + n ≤ length src → n ≤ length old
      → bytes ≡ placed old 0 (take (length old - 0) (take (at + n - at) (drop at src))) → (id : ℕ)
      → id ≡ id_in p bytes → Reports (Some (Packet id n))
  reports_packet at n i h k b id d =
      let z : at + n - at ≡ n = omega arith in
      let l : length (take n (drop at src)) ≡ n = length-take-le n (drop at src) (simp length-drop (omega arith)) in
      let q : bytes ≡ overwritten old (take n (drop at src)) =
      b ∙ ap (λ (k : ℕ). placed old 0 (take (length old - 0) (take k (drop at src)))) z
      ∙ placed_whole old (take n (drop at src)) 0 (omega arith) in
      rw i (
        ap₂ (λ (x y : ℕ). Some (Packet x y)) d (sym l),
        (front old (take n (drop at src)) bytes (length (take n (drop at src))) q refl, overwritten_stays old (take n (drop at src)) bytes q),
      )

  pub reports_bad : (at id : ℕ) → v ≡ Seen-as-BadChecksum at id → bytes ≡ old → Reports (Some (BadChecksum id))
  reports_bad at id i e = rw i (refl, (refl, e))

  pub reports_none : (at : ℕ) → v ≡ Seen-as-Waiting at → bytes ≡ old → Reports None
  reports_none at i e = rw i (refl, (refl, e))

-- ---- the step: the bytes of src from where reading goes on up to `end` are held

-- bytes behind what was seen do not count
answer_within : (src : List ℕ) (end : ℕ) (v : Scanned) → on_from v ≤ end → end ≤ length src
    → answer_of (take end src) v ≡ answer_of src v
answer_within src end (Seen-as-Packet at n) h k =
    ap (λ (w : List ℕ). Some (packet w))
    (ap (λ (l : List ℕ). take n l) (sym (part_is at end src (omega arith) (omega arith)))
    ∙ take-take n (end - at) (drop at src) (omega arith))
answer_within src end (Seen-as-BadChecksum at id) h k = refl
answer_within src end (Seen-as-Waiting at) h k = refl

pub replied : (p : Protocol) (src old held bytes : List ℕ) (end taken on : ℕ) (v : Scanned) (event : Option Event-as-Code) (r : Step)
    → r ≡ record { taken = taken; held = end - on; event = event } → on ≡ on_from v → on_from v ≤ end → end ≤ length src
    → event ≡ event_with (id_in p bytes) (answer_of src v) → take (length (packet_bytes (answer_of src v))) bytes ≡ packet_bytes (answer_of src v)
    → held ≡ overwritten old (take (end - on) (drop on src)) → Delivered p (result_of (take end src) taken v) r held bytes
replied p src old held bytes end taken on v event r i o h k e b s =
    let q = part_is (on_from v) end src h (omega arith) in
    let n : length (take (end - on_from v) (drop (on_from v) src)) ≡ end - on_from v =
    length-take-le (end - on_from v) (drop (on_from v) src) (simp length-drop (omega arith)) in
    rw (i, answer_within src end v h k)
    (record {
      taken_is = refl;
      event_is = e;
      count_is = rw o (sym (ap length (sym q) ∙ n));
      held_is = rw o (front old (take (end - on_from v) (drop (on_from v) src)) held (end - on_from v) (rw o at s) n ∙ q);
      bytes_are = b;
    })

pub stayed : (p : Protocol) (src old held bytes₀ bytes : List ℕ) (end taken on : ℕ) (v : Scanned) (event : Option Event-as-Code) (r : Step)
    → r ≡ record { taken = taken; held = end - on; event = event } → on ≡ on_from v → on_from v ≤ end → end ≤ length src
    → event ≡ event_with (id_in p bytes) (answer_of src v)
    → drop (length (packet_bytes (answer_of src v))) bytes ≡ drop (length (packet_bytes (answer_of src v))) bytes₀
    → held ≡ overwritten old (take (end - on) (drop on src)) → Stayed r old bytes₀ held bytes
stayed p src old held bytes₀ bytes end taken on v event r i o h k e b s =
    let part = take (end - on) (drop on src) in
    let n : length part ≡ end - on = length-take-le (end - on) (drop on src) (simp length-drop (omega arith)) in
    let m : size_in event ≡ length (packet_bytes (answer_of src v)) = ap size_in e ∙ size_is (id_in p bytes) (answer_of src v) in
    rw i
    (record {
      held_stays = subst (λ (k : ℕ). drop k held ≡ drop k old) n (overwritten_stays old part held s);
      bytes_stay = rw m b;
    })
