-- Demand 3 without noise, and all that is promised of every list of calls, of each reader that keeps to the rules.
use Rattle.std.specs.Prelude.{None, Some}
use mathlib.Core.Path.{◌≡◌, refl, sym, ap, subst, ◌∙◌}
use mathlib.Core.List.Memᴰ
use mathlib.Core.List.{List, [], ◌∷◌, ◌++◌, map, append-nil, append_assoc}
use mathlib.Core.Logic.{inl}
use Prim.Native.Nat.{ℕ, ◌+◌, ◌<◌}
use native.Mathlib.Omega.{arith}
use lib.ListN.{length, take, drop, length-drop, take-append-drop}
use lib.Seq.{take-length, drop-length}
use Rattle.reading.specs.Rules.{is_packet, is_waiting, Rules, Laws}
use Rattle.reading.specs.Reading.{Event, packet, EventAt, open', closed, read_from, reading}
use Rattle.reading.specs.Calls.{event, silent, first, CallResult, fed, gap, call}
use Rattle.reading.specs.Lists.{AnyReader, model, feeds, after, took, given, Follows}
use Rattle.reading.specs.Promise.{what, joined, packets_at, since, Finished, AllWellFormed}
use Rattle.reading.specs.Across.{CleanLine, PacketByPacket, CallPromises}
use Rattle.reading.proofs.Offsets.{nil}
use Rattle.reading.proofs.Split.{not_empty, read_packets}
use Rattle.reading.proofs.Demand.{fresh, took_calls, demand_3}
use Rattle.reading.proofs.Follows.{follows_after, follows_took, follows_given, follows_answer, follows_demand}
use Rattle.reading.proofs.Across.{without_noise, across_decided}
use Rattle.reading.proofs.Fewest.{fewest_fed, fewest_rule}
use Rattle.reading.proofs.Held.{held_bound, finished_empty}

what_packets : (p : ℕ) (packets : List (List ℕ)) → map what (packets_at p packets) ≡ map packet packets
what_packets p [] = refl
what_packets p (w ∷ packets) = ap {B = List Event} (λ l. packet w ∷ l) (what_packets (p + length w) packets)

module _ (R : Rules) (L : Laws R) where
  reads : (packets : List (List ℕ)) → AllWellFormed R packets → reading R (joined packets) ≡ packets_at 0 packets
  unfolding reading
  reads packets good =
      ap (λ (s : List ℕ). read_from R closed 0 s) (sym (append-nil (joined packets)))
      ∙ read_packets R L closed 0 packets [] good
      ∙ rw (nil R L closed (0 + length (joined packets)), append-nil)

  clean : (chunks : List (List ℕ)) (g : ℕ) (packets : List (List ℕ)) → AllWellFormed R packets
      → took (model R) [] (since chunks g) ≡ joined packets → Finished (model R) [] chunks g
      → given (model R) [] (since chunks g) ≡ map packet packets
  unfolding after
  clean chunks g packets good is f =
      let d = demand_3 R L [] refl [] (inl refl) chunks g [] packets [] (is ∙ sym (append-nil (joined packets))) good
      (without_noise R _) in
      sym d.firsts
      ∙ ap (λ (l : List EventAt). map what l) (d.all f ∙ ap (λ (s : List ℕ). reading R s) is ∙ reads packets good)
      ∙ what_packets 0 packets

  -- ---- a packet as one chunk
  module _ (w : List ℕ) (good : R.WellFormed w) where
    waits : (s : List ℕ) → R.verdict s ≡ is_waiting → (t : List ℕ) × (first R open' s ≡ silent t)
    unfolding first
    waits [] e = ([], refl)
    waits (b ∷ s) e = (b ∷ s, rw e)

    partial_silent : (k : ℕ) → k < length w → (t : List ℕ) × (first R open' (take k w) ≡ silent t)
    partial_silent k h =
        waits (take k w)
        (L.partial_waits (take k w) (drop k w) (rw (take-append-drop k w) good) (simp length-drop (omega arith)))

    whole : (s : List ℕ) → 0 < length s → R.verdict s ≡ is_packet (length s) → first R open' s ≡ event (packet s) []
    unfolding first
    whole [] h e = absurd (omega arith)
    whole (b ∷ s) h e = rw (e, take-length (b ∷ s), drop-length (b ∷ s))

    all_of_it : first R open' w ≡ event (packet w) []
    all_of_it =
        whole w (not_empty R L w good) (ap (λ (s : List ℕ). R.verdict s) (sym (append-nil w)) ∙ L.whole w [] good)

    fed_packet : record { taken = length w; answer = Some (packet w); held = [] } ≡ fed R [] w
    fed_packet =
        fewest_fed R [] w (record { taken = length w; answer = Some (packet w); held = [] })
        (record {
          within = omega arith;
          none_sooner = partial_silent;
          decided = λ e i. let z : packet w ≡ e = cc in rw (take-length w, ← z) all_of_it;
          undecided = λ i. let z : ◌≡◌ {A = ℕ} 0 1 = cc in absurd (omega arith);
        })

  packets_fed : (packets : List (List ℕ)) → AllWellFormed R packets
      → (took (model R) [] (feeds packets) ≡ joined packets) × (after (model R) [] (feeds packets) ≡ [])
  unfolding took after call
  packets_fed [] good = (refl, refl)
  packets_fed (w ∷ packets) good =
      let r = packets_fed packets (λ v k. good v (Memᴰ.tail k)) in
      subst (λ (f : CallResult). (take f.taken w ++ took (model R) f.held (feeds packets) ≡ w ++ joined packets)
      × (after (model R) f.held (feeds packets) ≡ []))
      (fed_packet w (good w (Memᴰ.head refl))) (rw (take-length w, r.0), r.1)

  gap_at_none : (call R [] gap).answer ≡ None
  unfolding call first
  gap_at_none = refl

  -- so the calls are there that `CleanLine` speaks of
  module _ (packets : List (List ℕ)) (good : AllWellFormed R packets) where
    all_taken : took (model R) [] (since packets 1) ≡ joined packets
    all_taken = took_calls R L [] packets 1 ∙ (packets_fed packets good).0

    gap_silent : (call R (after (model R) [] (since packets 0)) gap).answer ≡ None
    gap_silent = rw (append-nil (feeds packets), (packets_fed packets good).1) gap_at_none

    all_given : given (model R) [] (since packets 1) ≡ map packet packets
    all_given = clean packets 1 packets good all_taken (0, omega arith, gap_silent)

  module _ (M : AnyReader) (Legal : M.State → Type 0) (held : M.State → List ℕ) (F : Follows R M Legal held) where
    clean_line : CleanLine R M
    clean_line x is-fresh earlier start chunks g packets good is f =
        let s = F.fresh x is-fresh in
        let n = follows_after R M Legal held F x [] earlier s.0 s.1 in
        let y = after M x earlier in
        let h = n.1 ∙ fresh R L earlier start in (
          follows_took R M Legal held F y [] (since chunks g) n.0 h ∙ is,
          follows_given R M Legal held F y [] (since chunks g) n.0 h ∙ clean chunks g packets good is f,
        )

    packet_by_packet : PacketByPacket R M
    packet_by_packet x is-fresh packets good =
        let s = F.fresh x is-fresh in
        let one = since packets 1 in
        let a = follows_answer R M Legal held F x [] (since packets 0) gap s.0 s.1 ∙ gap_silent packets good in
        record {
          all_taken = follows_took R M Legal held F x [] one s.0 s.1 ∙ all_taken packets good;
          all_given = follows_given R M Legal held F x [] one s.0 s.1 ∙ all_given packets good;
          finished = (0, omega arith, a);
          start_again = (since packets 0, sym (append_assoc (feeds packets) [] (gap ∷ [])), a);
        }

    pub call_promises : CallPromises R M
    call_promises =
        record {
          laws = L;
          demand_3 = follows_demand R M Legal held F L;
          clean_line = clean_line;
          packet_by_packet = packet_by_packet;
          without_noise = without_noise R;
          across_decided = across_decided R L;
          fewest_rule = fewest_rule R;
          held_bound = held_bound R L;
          finished_empty = finished_empty R L;
        }
