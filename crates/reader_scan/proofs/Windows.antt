-- How far a feeding call has come, by what was seen of its window: one round of the loops that take bytes, and their end.
use Rattle.std.specs.Prelude.{Some}
use mathlib.Core.Path.{◌≡◌, refl, sym, ap, ◌∙◌}
use mathlib.Core.Bool.{true, false, ◌&&◌}
use mathlib.Core.List.{List, [], ◌++◌, append-nil, append_assoc}
use Prim.Native.Nat.{ℕ, zero, suc, ◌+◌, ◌-◌, ◌≤◌, ◌<◌, min}
use native.Mathlib.Omega.{arith}
use lib.Dec.{leb, ltb}
use lib.ListN.{length, take, drop, length-append, length-take, length-drop}
use lib.Seq.{length-take-le, take_all, take-add, drop-drop, drop-append-le, drop-append-add}
use borrow.Author.Tests.{leb-true, ltb-true, le-leb, lt-ltb}
use Rattle.lists.proofs.Bools.{and_left, and_right, both_ways}
use Rattle.lists.proofs.Parts.{take_least}
use Rattle.buffers.proofs.Parts.{stays_more}
use Rattle.reading.specs.Rules.{Rules, Laws, Undecided}
use Rattle.reading.specs.Reading.{Event, packet, bad_checksum, open'}
use Rattle.reading.specs.Calls.{CallResult, fed}
use Rattle.reading.specs.Progress.{Reached, Patient}
use Rattle.reading.proofs.Progress.{silent_again, reached_start, reached_past, reached_event, reached_end}
use Rattle.reading.proofs.Progress.{reached_take, reached_back}
use Rattle.reading.proofs.Ahead.{part}
use Rattle.reader_scan.specs.declared.Scanned.{Scanned}
use Rattle.reader_scan.specs.declared.Scanned.TheVariants.{Packet, BadChecksum, Waiting}
use Rattle.reader_scan.specs.Scan.{Decides, Waits, Seen, Ends, Stops}

pub not_none : (n : ℕ) → (n ≡ 0 → ⊥) → 0 < n
not_none zero h = absurd (h refl)
not_none (suc n) h = omega arith

-- the least of three is within the first
pub least_first : (a b c n m : ℕ) → n ≡ min a b → m ≡ min n c → m ≤ a
least_first a b c n m e f = omega (arith, e, f)

-- bytes that are not given back to the chunk are some
pub not_back : (few k n : ℕ) → 0 < few → (leb k n && ltb k few) ≡ false → k ≡ 0 → ⊥
not_back few k n o e z =
    let l = le-leb k n (omega arith) in
    let s = lt-ltb k few (omega arith) in
    both_ways (leb k n && ltb k few) (rw (l, s)) e

-- ---- the call's way

module _ (R : Rules) (L : Laws R) (h c : List ℕ) where
  ends_event : (s : List ℕ) (n from at on : ℕ) (e : Event) → Reached R h c (drop from s) n → Decides R open' s from at on e
      → fed R h c ≡ record { taken = n; answer = Some e; held = drop on s }
  ends_event s n from at on e r d = reached_event R h c (drop from s) (drop on s) n e r d.first_is

  pub ends_decided : (s : List ℕ) (n from : ℕ) (v : Scanned) → ((at : ℕ) → v ≡ Waiting at → ⊥) → Seen R open' s from v
      → Reached R h c (drop from s) n → Ends R h c s n v
  ends_decided s n from (Packet at k) w d r =
      record {
        fits = d.fits;
        short = omega (arith, d.short);
        fed_is = ends_event s n from at (at + k) (packet (take k (drop at s))) r d;
      }
  ends_decided s n from (BadChecksum at id) w d r =
      record { fits = d.fits; short = omega arith; fed_is = ends_event s n from at (at + 1) (bad_checksum id) r d }
  ends_decided s n from (Waiting at) w d r = absurd (w at refl)

  -- a waiting window, and the offsets before it dropped
  pub stops_seen : (s : List ℕ) (n from at : ℕ) → Reached R h c (drop from s) n → Waits R open' s from at
      → Stops R h c s n at
  stops_seen s n from at r w =
      record {
        fits = w.fits;
        reached = reached_past R L h c (drop from s) (drop at s) n r w.first_is;
        waits = silent_again R L (drop from s) (drop at s) w.first_is;
      }

  -- the window takes bytes that it waits for
  pub stops_take : (s s' : List ℕ) (n at k m from : ℕ) → Stops R h c s n at → Patient R (drop at s) k → m ≤ k → n + m ≤ length c
      → drop from s' ≡ drop at s ++ take m (drop n c) → Reached R h c (drop from s') (n + m)
  stops_take s s' n at k m from w p l fits e = rw e (reached_take R h c (drop at s) n m k w.reached p l fits)

  -- all of the chunk is taken
  pub ends_stopped : (s : List ℕ) (n at : ℕ) → Stops R h c s n at → n ≡ length c → Ends R h c s n (Waiting at)
  ends_stopped s n at w e =
      record {
        fits = w.fits;
        short = omega arith;
        fed_is = rw e (reached_end R h c (drop at s) (drop at s) (rw e at w.reached) w.waits);
      }

-- ---- taking bytes of the chunk into the held ones: those from `at` up to `end` of a buffer of `most` bytes are to be looked at

pub record Filling (R : Rules) (h chunk : List ℕ) (most : ℕ) (held : List ℕ) (taken at end : ℕ) : Type 0 where
  pub taken_within : taken ≤ length chunk
  pub ordered : at ≤ end
  pub within : end ≤ most
  pub size : length held ≡ most
  pub reached : Reached R h chunk (drop at (take end held)) taken
  -- they are the last of the bytes that were held and those taken
  pub fewer : end - at ≤ length h + taken
  pub last : drop at (take end held) ≡ drop (length h + taken - (end - at)) (h ++ take taken chunk)

module _ (R : Rules) (L : Laws R) (chunk : List ℕ) (most : ℕ) where
  -- of those that count as held, as many as there are
  module _ (held : List ℕ) (count n : ℕ) (e : n ≡ min count (length held)) where
    pub filling_start : length held ≡ most → Filling R (take count held) chunk most held 0 0 n
    filling_start s =
        record {
          taken_within = omega arith;
          ordered = omega arith;
          within = omega arith;
          size = s;
          reached = rw (take_least count n held e) (reached_start R (take count held) chunk);
          fewer = simp length-take (omega (arith, e));
          last =
              let z : length (take count held) + 0 - (n - 0) ≡ 0 = simp length-take (omega (arith, e)) in
              rw z (take_least count n held e ∙ sym (append-nil (take count held)));
        }

    pub filling_none : n ≡ 0 → Reached R (take count held) chunk [] 0
    filling_none z =
        rw (← take_least count n held e, z) (reached_start R [] chunk)

  pub part_length : (taken m : ℕ) → taken + m ≤ length chunk → length (take (taken + m - taken) (drop taken chunk)) ≡ m
  part_length taken m h =
      let i : taken + m - taken ≡ m = omega arith in
      rw i (length-take-le m (drop taken chunk) (simp length-drop (omega arith)))

  -- the window with m bytes more, where it begins now
  pub room_behind : (r waiting n m taken : ℕ) → taken + m ≤ length chunk → n ≡ most
      → r + waiting + length (take (taken + m - taken) (drop taken chunk)) ≤ n → r + waiting + m ≤ most
  room_behind r waiting n m taken t e h = omega (arith, part_length taken m t)

  module _ (h held : List ℕ) (taken at end : ℕ) (w : Filling R h chunk most held taken at end) where
    pub filling_fits : end ≤ length held
    filling_fits =
        let i = w.within in
        let s = w.size in
        omega arith

    whole : length (take end held) ≡ end
    whole = length-take-le end held filling_fits

    pub filling_ordered : at ≤ length (take end held)
    filling_ordered = let i = w.ordered in omega (arith, whole)

    -- they decide an event
    pub filling_decided : (v : Scanned) → ((at : ℕ) → v ≡ Waiting at → ⊥) → Seen R open' (take end held) at v
        → Ends R h chunk (take end held) taken v
    filling_decided v n d = ends_decided R L h chunk (take end held) taken at v n d w.reached

    -- what stays behind the bytes held and those taken so far stays behind those that the whole call takes
    pub filling_stays : (held₀ : List ℕ) (count : ℕ) → drop (count + taken) held ≡ drop (count + taken) held₀
        → drop (count + (fed R h chunk).taken) held ≡ drop (count + (fed R h chunk).taken) held₀
    filling_stays held₀ count e =
        let n = ap (λ (r : CallResult). r.taken) w.reached.same in
        stays_more (count + taken) (count + (fed R h chunk).taken) held held₀ (omega (arith, n)) e

    -- they wait, and the window begins at `start`
    module _ (start : ℕ) (v : Waits R open' (take end held) at start) where
      pub window_fits : start ≤ end
      window_fits = let i = v.fits in omega (arith, whole)

      window : Stops R h chunk (take end held) taken start
      window = stops_seen R L h chunk (take end held) taken at start w.reached v

      pub window_end : length chunk - taken ≡ 0 → Ends R h chunk (take end held) taken (Waiting start)
      window_end l =
          let i = w.taken_within in
          ends_stopped R L h chunk (take end held) taken start window (omega arith)

      window_fewer : end - start ≤ length h + taken
      window_fewer =
          let i = v.begins in
          omega (arith, w.fewer)

      window_last : drop start (take end held) ≡ drop (length h + taken - (end - start)) (h ++ take taken chunk)
      window_last =
          let i = v.begins in
          let o = w.ordered in
          let y : at + (start - at) ≡ start = omega arith in
          let z : length h + taken - (end - at) + (start - at) ≡ length h + taken - (end - start) = omega (arith, w.fewer, window_fits) in
          ap (λ (k : ℕ). drop k (take end held)) (sym y) ∙ sym (drop-drop (start - at) at (take end held))
          ∙ ap (drop (start - at)) w.last
          ∙ drop-drop (start - at) (length h + taken - (end - at)) (h ++ take taken chunk)
          ∙ ap (λ (k : ℕ). drop k (h ++ take taken chunk)) z

      -- the bytes that were held are passed, and those that wait are few: they are read in the chunk
      pub window_back : (few : ℕ) → ((u : List ℕ) → length u < few → Undecided (R.verdict u))
          → (leb (end - start) taken && ltb (end - start) few) ≡ true
          → (end - start ≤ taken) × Reached R h chunk [] (taken - (end - start))
      window_back few q e =
          let k = end - start in
          let l = leb-true k taken (and_left (leb k taken) (ltb k few) e) in
          let f = ltb-true k few (and_right (leb k taken) (ltb k few) e) in
          let y : length h + taken - k ≡ length h + (taken - k) = omega arith in
          let z : taken - (taken - k) ≡ k = omega arith in (
            l,
            reached_back R few q h chunk (drop start (take end held)) taken k window.reached l f
                (window_last ∙ ap (λ (n : ℕ). drop n (h ++ take taken chunk)) y ∙ drop-append-add h (take taken chunk) (taken - k)
                ∙ part (taken - k) taken chunk
                ∙ ap (λ (n : ℕ). take n (drop (taken - k) chunk)) z),
          )

      pub window_full : length held - (end - start) ≡ 0 → 0 < length chunk - taken
          → (taken < length chunk) × Stops R h chunk held taken 0 × (length held ≤ length h + taken)
      window_full l t =
          let i = w.within in
          let s = w.size in
          let z : start ≡ 0 = omega (arith, window_fits) in
          let all : take end held ≡ held = take_all end held (omega arith) in
          (omega arith, rw (z, all) at window, omega (arith, window_fewer))

      -- some wait
      pub window_waits : (end - start ≡ 0 → ⊥) → start < length (take end held)
      window_waits z = omega (arith, whole, not_none (end - start) z)

      -- there is room for m bytes more
      pub window_room : (m : ℕ) → m ≤ length held - (end - start)
          → (start ≤ end) × (end ≤ length held)
          × (end - start + length (take (taken + m - taken) (drop taken chunk)) ≤ length held)
      window_room m l =
          let j = w.within in
          let s = w.size in
          (window_fits, omega arith, simp length-take (omega arith))

      -- and it has taken them
      pub window_more : (held' : List ℕ) (k m r : ℕ) → Patient R (drop start (take end held)) k → m ≤ k → taken + m ≤ length chunk → r + (end - start) + m ≤ most
          → length held' ≡ length held
          → drop r (take (r + (end - start) + length (take (taken + m - taken) (drop taken chunk))) held')
          ≡ drop start (take end held) ++ take (taken + m - taken) (drop taken chunk)
          → Filling R h chunk most held' (taken + m) r (r + (end - start) + m)
      window_more held' k m r p l t fits same is =
          let n = w.size in
          let i : taken + m - taken ≡ m = omega arith in
          let q = length h + taken - (end - start) in
          let z : length h + (taken + m) - (r + (end - start) + m - r) ≡ q = omega (arith, window_fewer) in
          let j : drop r (take (r + (end - start) + m) held') ≡ drop start (take end held) ++ take m (drop taken chunk) =
          ap (λ (n : ℕ). drop r (take (r + (end - start) + n) held')) (sym (part_length taken m t)) ∙ is
          ∙ ap (λ (n : ℕ). drop start (take end held) ++ take n (drop taken chunk)) i in
          record {
            taken_within = t;
            ordered = omega arith;
            within = fits;
            size = omega arith;
            reached = stops_take R L h chunk (take end held) (take (r + (end - start) + m) held') taken start k m r window p l t j;
            fewer = omega (arith, window_fewer);
            last =
                rw z
                (j ∙ ap (λ (u : List ℕ). u ++ take m (drop taken chunk)) window_last
                ∙ sym (drop-append-le q (h ++ take taken chunk) (take m (drop taken chunk)) (simp (length-append, length-take) (omega (arith, w.taken_within))))
                ∙ ap (drop q) (append_assoc h (take taken chunk) (take m (drop taken chunk)) ∙ ap (λ (u : List ℕ). h ++ u) (sym (take-add taken m chunk))));
          }
