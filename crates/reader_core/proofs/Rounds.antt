-- How a call's parts come together: what a window leaves to deliver, and a full buffer with one byte more.
use Rattle.std.specs.Prelude.{None, Some}
use mathlib.Core.Path.{◌≡◌, refl, sym, ap, ap₂, ◌∙◌}
use mathlib.Core.List.{List, [], ◌∷◌, ◌++◌}
use Prim.Native.Nat.{ℕ, suc, ◌+◌, ◌-◌, ◌≤◌, ◌<◌}
use native.Mathlib.Omega.{arith}
use lib.ListN.{length, take, drop, get_or, length-append, length-drop}
use lib.Seq.{length-take-le, take_all, drop-cons, drop-drop, drop-length}
use Rattle.reading.specs.Rules.{Rules, Laws, is_packet, is_bad_checksum, is_waiting, is_nothing}
use Rattle.reading.specs.Rules.{Verdict}
use Rattle.reading.specs.Reading.{packet, bad_checksum, open', closed}
use Rattle.reading.specs.Calls.{event, first, CallResult, fed, gapped, feed, call}
use Rattle.reading.specs.Progress.{after_taking, Reached}
use Rattle.reading.proofs.Held.{held_bound}
use Rattle.reading.proofs.Progress.{first_at_lem, last_byte, silent_patient, reached_more, reached_event, reached_nothing}
use Rattle.reader_scan.specs.declared.Scanned.{Scanned}
use Rattle.reader_scan.specs.declared.Scanned.TheVariants.{Packet, BadChecksum, Waiting}
use Rattle.reader_scan.specs.declared.Stop.{Stop}
use Rattle.reader_scan.specs.declared.Stop.TheVariants.{Done, Passed, Full}
use Rattle.packet_protocols.specs.declared.Protocol.{Protocol}
use Rattle.packet_protocols.specs.Protocols.{rules_of, id_in}
use Rattle.packet_protocols.proofs.Shapes.{laws}
use Rattle.reader_core.specs.declared.Step.{Step}
use Rattle.reader_core.specs.declared.Event.TheVariants.{Packet as Gave-as-Packet, BadChecksum as Gave-as-BadChecksum}
use Rattle.reader_scan.specs.Scan.{on_from, size_seen, Waits, Seen, result_of, Ends, Stops, Filled}
use Rattle.reader_core.specs.Delivered.{Delivered}
use Rattle.reader_scan.proofs.Windows.{stops_take}

pub room_for : (n m k : ℕ) → n ≤ m → k ≡ m → n ≤ k
room_for n m k h e = rw e h

-- ---- the rest of a chunk, as it is lent

module _ (chunk : List ℕ) (from : ℕ) where
  abbrev pub rest : List ℕ
  rest = take (length chunk - from) (drop from chunk)

  pub rest_is : rest ≡ drop from chunk
  rest_is = take_all (length chunk - from) (drop from chunk) (simp length-drop (omega arith))

  pub rest_within : (n : ℕ) → n ≤ length rest → from ≤ length chunk → from + n ≤ length chunk
  rest_within n h l = omega (arith, ap length rest_is, length-drop from chunk)

  pub rest_here : (n : ℕ) → n < length (drop from chunk) → from + n < length chunk
  rest_here n h = omega (arith, length-drop from chunk)

module _ (p : Protocol) where
  abbrev R : Rules
  R = rules_of p

  abbrev L : Laws R
  L = laws p

  -- ---- a call that has come to its end

  module _ (h c src : List ℕ) (end n : ℕ) (v : Scanned) (within : end ≤ length src) (w : Ends R h c (take end src) n v) where
    pub ends_on : on_from v ≤ end
    ends_on = let f = w.fits in omega (arith, length-take-le end src within)

    -- what is held has room
    pub ends_left : length h ≤ R.longest - 1 → end - on_from v ≤ R.longest - 1
    unfolding call
    ends_left l =
        let k = held_bound R L h (feed c) l in
        let e : length (fed R h c).held ≡ end - on_from v =
        ap (λ (r : CallResult). length r.held) w.fed_is ∙ length-drop (on_from v) (take end src)
        ∙ ap (λ (m : ℕ). m - on_from v) (length-take-le end src within) in
        omega arith

  pub ends_after : (h c s : List ℕ) (before n : ℕ) (v : Scanned) → Ends R h c s n v
      → after_taking before (fed R h c) ≡ result_of s (before + n) v
  ends_after h c s before n v w = ap (after_taking before) w.fed_is

  pub ends_fed : (h₀ c₀ h s : List ℕ) (taken n : ℕ) (v : Scanned) → Reached R h₀ c₀ h taken → Ends R h (drop taken c₀) s n v
      → fed R h₀ c₀ ≡ result_of s (taken + n) v
  ends_fed h₀ c₀ h s taken n v a w = a.same ∙ ends_after h (drop taken c₀) s taken n v w

  pub ends_rest : (chunk s : List ℕ) (from n : ℕ) (v : Scanned) → Ends R [] (rest chunk from) s n v
      → after_taking from (fed R [] (drop from chunk)) ≡ result_of s (from + n) v
  ends_rest chunk s from n v w = ends_after [] (drop from chunk) s from n v (rw (rest_is chunk from) at w)

  -- nothing is left of the held bytes
  pub passed_fed : (h₀ c₀ h : List ℕ) (taken n : ℕ) → Reached R h₀ c₀ h taken → Reached R h (drop taken c₀) [] n
      → fed R h₀ c₀ ≡ after_taking (taken + n) (fed R [] (drop (taken + n) c₀))
  passed_fed h₀ c₀ h taken n a b = (reached_more R h₀ c₀ h [] taken n a b).same

  -- a gap call whose scan found nothing
  pub gap_nothing : (s held bytes : List ℕ) (at : ℕ) (step : Step) → Waits R closed s 0 at
      → step ≡ record { taken = 0; held = 0; event = None } → Delivered p (gapped (first R closed s)) step held bytes
  gap_nothing s held bytes at step w e =
      rw (w.first_is, e)
      (record { taken_is = refl; event_is = refl; count_is = refl; held_is = refl; bytes_are = refl })

  -- and one whose scan found an event
  pub gap_decided : (s : List ℕ) (v : Scanned) → ((at : ℕ) → v ≡ Waiting at → ⊥) → Seen R closed s 0 v
      → (on_from v ≤ length s) × (size_seen v ≤ R.longest) × (gapped (first R closed s) ≡ result_of s 0 v)
  gap_decided s (Packet at n) w d = (d.fits, omega (arith, d.short), ap gapped d.first_is)
  gap_decided s (BadChecksum at id) w d = (d.fits, omega arith, ap gapped d.first_is)
  gap_decided s (Waiting at) w d = absurd (w at refl)

  -- ---- how the held bytes stopped

  pub filled_rest : (h chunk old held : List ℕ) (from : ℕ) (stop : Stop) → Filled R h (rest chunk from) old held stop
      → Filled R h (drop from chunk) old held stop
  filled_rest h chunk old held from stop f = rw (rest_is chunk from) at f

  module _ (h chunk old held : List ℕ) (stop : Stop) (f : Filled R h chunk old held stop) where
    pub filled_done : (v : Scanned) (end n : ℕ) → stop ≡ Done v end n → Filled R h chunk old held (Done v end n)
    filled_done v end n e = rw e at f

    pub filled_passed : (n : ℕ) → stop ≡ Passed n → Filled R h chunk old held (Passed n)
    filled_passed n e = rw e at f

    pub filled_full : (n : ℕ) → stop ≡ Full n → Filled R h chunk old held (Full n)
    filled_full n e = rw e at f

  -- ---- a full buffer and one byte more

  module _ (h₀ c₀ h held : List ℕ) (taken past : ℕ) (a : Reached R h₀ c₀ h taken)
      (w : Stops R h (drop taken c₀) held past 0) (here : past < length (drop taken c₀)) (full : R.longest ≡ length held + 1) where
    abbrev next : ℕ
    next = taken + past

    abbrev more : List ℕ
    more = held ++ get_or c₀ next 0 ∷ []

    more_length : length more ≡ length held + 1
    more_length = length-append held (get_or c₀ next 0 ∷ [])

    more_reached : Reached R h₀ c₀ more (next + 1)
    more_reached =
        let y : taken + (past + 1) ≡ next + 1 = omega arith in
        let one : take 1 (drop past (drop taken c₀)) ≡ get_or c₀ next 0 ∷ [] =
        ap (λ (l : List ℕ). take 1 l) (drop-drop past taken c₀ ∙ drop-cons c₀ next 0 (omega (arith, length-drop taken c₀))) in
        let p = silent_patient R held (omega arith) w.waits in
        let t = stops_take R L h (drop taken c₀) held more past 0 1 1 0 w p (omega arith) (omega arith) (rw one) in
        rw y at (reached_more R h₀ c₀ h more taken (past + 1) a t)

    pub full_packet : (n id : ℕ) (r : Step) (held' bytes : List ℕ) → R.verdict more ≡ is_packet n
        → r ≡ record { taken = next + 1; held = 0; event = Some (Gave-as-Packet id n) } → id ≡ id_in p bytes → bytes ≡ more
        → Delivered p (fed R h₀ c₀) r held' bytes
    full_packet n id r held' bytes e i d j =
        let m : n ≡ suc (length held) = last_byte R L held held (get_or c₀ next 0) n w.waits e in
        let l : n ≡ length more = omega (arith, more_length) in
        let all : take n more ≡ more = take_all n more (omega arith) in
        let end : drop n more ≡ [] = ap (λ (n : ℕ). drop n more) l ∙ drop-length more in
        let f : first R open' more ≡ event (packet more) [] =
        first_at_lem R open' more (is_packet n) (omega (arith, more_length)) e ∙ rw (all, end) in
        rw (reached_event R h₀ c₀ more [] (next + 1) (packet more) more_reached f, i, j)
        (record {
          taken_is = refl;
          event_is = ap₂ (λ (x y : ℕ). Some (Gave-as-Packet x y)) (rw j at d) l;
          count_is = refl;
          held_is = refl;
          bytes_are = take_all (length more) more (omega arith);
        })

    pub full_bad : (id n : ℕ) (r : Step) (held' bytes : List ℕ) → R.verdict more ≡ is_bad_checksum id
        → r ≡ record { taken = next + 1; held = n; event = Some (Gave-as-BadChecksum id) } → n ≡ length held → held' ≡ drop 1 more
        → Delivered p (fed R h₀ c₀) r held' bytes
    full_bad id n r held' bytes e i m j =
        let f : first R open' more ≡ event (bad_checksum id) (drop 1 more) =
        first_at_lem R open' more (is_bad_checksum id) (omega (arith, more_length)) e in
        let l : n ≡ length (drop 1 more) = m ∙ sym (length-drop 1 more ∙ omega (arith, more_length)) in
        rw (reached_event R h₀ c₀ more (drop 1 more) (next + 1) (bad_checksum id) more_reached f, i, j)
        (record {
          taken_is = refl;
          event_is = refl;
          count_is = l;
          held_is = take_all n (drop 1 more) (omega arith);
          bytes_are = refl;
        })

    -- neither: it is too long to wait, so that nothing begins with its first byte
    pub full_other : (n : ℕ) (held' : List ℕ) → ((size : ℕ) → R.verdict more ≡ is_packet size → ⊥)
        → ((id : ℕ) → R.verdict more ≡ is_bad_checksum id → ⊥) → n ≡ length held → held' ≡ drop 1 more
        → Reached R h₀ c₀ (take n held') (next + 1)
    full_other n held' x q m j = by (R.verdict more) refl
      where
        by : (v : Verdict) → R.verdict more ≡ v → Reached R h₀ c₀ (take n held') (next + 1)
        by (is_packet size) e = absurd (x size e)
        by (is_bad_checksum id) e = absurd (q id e)
        by is_waiting e = absurd (omega (arith, L.room more e, L.lacking more e, more_length))
        by is_nothing e =
            let l : length (drop 1 more) ≡ n = length-drop 1 more ∙ omega (arith, more_length) in
            let all : take n (drop 1 more) ≡ drop 1 more = take_all n (drop 1 more) (omega arith) in
            rw (j, all) (reached_nothing R L h₀ c₀ more (next + 1) (omega (arith, more_length)) e more_reached)
