-- Demand 3, over any packet rules that have the laws.
use Rattle.std.specs.Prelude.{None}
use mathlib.Core.Path.{◌≡◌, refl, sym, ap, subst, ◌∙◌}
use mathlib.Core.List.{List, [], ◌∷◌, ◌++◌, map, append-nil, append_assoc, Memᴰ}
use mathlib.Core.List.Memᴰ
use mathlib.Core.Logic.{◌⊎◌, inl, inr}
use Prim.Native.Nat.{ℕ, zero, suc, ◌+◌, ◌-◌, ◌≤◌, ◌<◌}
use native.Mathlib.Nat.{zero-add}
use native.Mathlib.Omega.{arith}
use lib.ListN.{length, take, length-append, length-map}
use lib.Seq.{take_at}
use Rattle.reading.specs.Rules.{Rules, Laws}
use Rattle.reading.specs.Reading.{Event, EventAt, Mode, open', closed, read_from, reading}
use Rattle.reading.specs.Calls.{Call, feed, gap, call}
use Rattle.reading.specs.Lists.{model, feeds, gaps, after, took, given}
use Rattle.reading.specs.Promise.{what, joined, packets_at, Before, AllOut, AllWellFormed, NoneAcross, EndsSilent}
use Rattle.reading.specs.Promise.{Followed, AtStart, since, given_at, Finished, Promised, Demand3}
use Rattle.reading.proofs.Offsets.{nil, stuck, short, Ends, sure_ends, ends_compose, feeds_sure, gaps_end}
use Rattle.reading.proofs.Offsets.{gap_silent, feed_silent, after_append, given_append, took_append, took_gaps}
use Rattle.reading.proofs.Split.{before_append, before_le, from, packets_before, Through, Outcome, split}

module _ (R : Rules) (L : Laws R) where
  -- ---- the reader after the calls
  pub fresh : (cs : List Call) → AtStart (model R) [] cs → after (model R) [] cs ≡ []
  unfolding after
  fresh cs (inl e) = rw e
  fresh cs (inr e) = rw (e.1, after_append R L [] e.0 (gap ∷ [])) (gap_silent R L (after (model R) [] e.0) e.2)

  gaps_none : (g : ℕ) → after (model R) [] (gaps g) ≡ []
  unfolding after call Rattle.reading.specs.Calls.first
  gaps_none zero = refl
  gaps_none (suc g) = gaps_none g

  gaps_split : (k g : ℕ) → k < g → (j : ℕ) × (gaps g ≡ gaps k ++ (gap ∷ gaps j))
  gaps_split zero zero h = absurd (omega arith)
  gaps_split zero (suc g) h = (g, refl)
  gaps_split (suc k) zero h = absurd (omega arith)
  gaps_split (suc k) (suc g) h = let r = gaps_split k g (omega arith) in (r.0, ap {B = List Call} (λ l. gap ∷ l) r.1)

  gap_then : (h : List ℕ) (j : ℕ) → (call R h gap).answer ≡ None → after (model R) h (gap ∷ gaps j) ≡ []
  unfolding after
  gap_then h j e = subst (λ (l : List ℕ). after (model R) l (gaps j) ≡ []) (sym (gap_silent R L h e)) (gaps_none j)

  finished_after : (h : List ℕ) (chunks : List (List ℕ)) (g : ℕ) → Finished (model R) h chunks g
      → after (model R) h (since chunks g) ≡ []
  finished_after h chunks g f =
      let r = gaps_split f.0 g (omega (arith, f.1)) in
      rw (
        r.1,
        ← append_assoc (feeds chunks) (gaps f.0) (gap ∷ gaps r.0),
        after_append R L h (since chunks f.0) (gap ∷ gaps r.0),
      )
      (gap_then (after (model R) h (since chunks f.0)) r.0 f.2)

  pub took_calls : (h : List ℕ) (chunks : List (List ℕ)) (g : ℕ)
      → took (model R) h (since chunks g) ≡ took (model R) h (feeds chunks)
  took_calls h chunks g =
      rw (
        took_append R L h (feeds chunks) (gaps g),
        took_gaps R L (after (model R) h (feeds chunks)) g,
        append-nil (took (model R) h (feeds chunks)),
      )

  -- ---- the events given are the first of the reading
  length_what : (out : List EventAt) (es : List Event) → map what out ≡ es → length out ≡ length es
  length_what out es e = sym (length-map out what) ∙ ap length e

  ends_calls : (chunks : List (List ℕ)) (g : ℕ)
      → Ends R L (took (model R) [] (since chunks g)) (given (model R) [] (since chunks g))
      (after (model R) [] (since chunks g))
  ends_calls chunks g =
      let h = after (model R) [] (feeds chunks) in
      rw (took_calls [] chunks g, given_append R L [] (feeds chunks) (gaps g), after_append R L [] (feeds chunks) (gaps g))
      (ends_compose R L (took (model R) [] (feeds chunks)) h (after (model R) h (gaps g)) (given (model R) [] (feeds chunks))
      (given (model R) h (gaps g))
      (sure_ends R L (took (model R) [] (feeds chunks)) (given (model R) [] (feeds chunks)) h (feeds_sure R L [] chunks))
      (gaps_end R L h g))

  record Known (chunks : List (List ℕ)) (g : ℕ) : Type 0 where
    at : ℕ
    firsts : map what (given_at R (model R) [] chunks g) ≡ given (model R) [] (since chunks g)
    rest : read_from R closed 0 (took (model R) [] (since chunks g)) ≡ given_at R (model R) [] chunks g ++ read_from R closed at
        (after (model R) [] (since chunks g))

  known : (chunks : List (List ℕ)) (g : ℕ) → Known chunks g
  unfolding reading
  known chunks g =
      let r = ends_calls chunks g 0 in
      let cut : given_at R (model R) [] chunks g ≡ r.0 =
      rw r.3 (take_at r.0 (read_from R closed r.1 (after (model R) [] (since chunks g)))
      (length (given (model R) [] (since chunks g)))
      (length_what r.0 (given (model R) [] (since chunks g)) r.2)) in
      record {
        at = r.1;
        firsts = ap (λ (l : List EventAt). map what l) cut ∙ r.2;
        rest = r.3 ∙ ap (λ (l : List EventAt). l ++ read_from R closed r.1 (after (model R) [] (since chunks g))) (sym cut);
      }

  -- while the segment is open
  record Open (chunks : List (List ℕ)) : Type 0 where
    at : ℕ
    rest : read_from R open' 0 (took (model R) [] (since chunks 0)) ≡ given_at R (model R) [] chunks 0 ++ read_from R open' at
        (after (model R) [] (feeds chunks))

  open_known : (chunks : List (List ℕ)) → Open chunks
  unfolding reading
  open_known chunks =
      let r = feeds_sure R L [] chunks 0 in
      let es = given (model R) [] (feeds chunks) in
      let t = after (model R) [] (feeds chunks) in
      let whole : read_from R closed 0 (took (model R) [] (feeds chunks)) ≡ r.0 ++ read_from R closed r.1 t =
      simp append-nil at
      (r.3 closed []) in
      let cut : take (length es) (read_from R closed 0 (took (model R) [] (feeds chunks))) ≡ r.0 =
      rw whole (take_at r.0 (read_from R closed r.1 t) (length es) (length_what r.0 es r.2)) in
      record {
        at = r.1;
        rest = rw (append-nil (feeds chunks), cut) (simp append-nil at (r.3 open' []));
      }

  -- ---- the noise, the packets and the rest
  module _ (noise : List ℕ) (packets : List (List ℕ)) (rest : List ℕ) (good : AllWellFormed R packets)
      (none_across : NoneAcross R noise (joined packets ++ rest)) where
    all_out : (m : Mode) (events : List EventAt) → read_from R m 0 (noise ++ (joined packets ++ rest)) ≡ events
        → Through R L m packets rest good 0 noise → AllOut events (length noise) packets
    all_out m events e t =
        record {
          sooner = t.0;
          later = read_from R m (length noise + length (joined packets)) rest;
          are = sym e ∙ (simp zero-add at t.1);
          begin_sooner = simp zero-add at t.2;
          begin_later = from R L m (length noise + length (joined packets)) rest;
        }

    outcome : (m : Mode) → Outcome R L m packets rest good 0 noise
    outcome m = split R L m packets rest good (length noise) 0 noise (omega arith) none_across

    closed_through : Outcome R L closed packets rest good 0 noise → Through R L closed packets rest good 0 noise
    closed_through (inl t) = t
    closed_through (inr t) = let i = t.0 in let z : ◌≡◌ {A = ℕ} 0 1 = cc in absurd (omega arith)

    whole_out : AllOut (read_from R closed 0 (noise ++ (joined packets ++ rest))) (length noise) packets
    whole_out = all_out closed (read_from R closed 0 (noise ++ (joined packets ++ rest))) refl (closed_through (outcome closed))

    only : (p : ℕ) (e : Event) → Memᴰ (p, e) (read_from R closed 0 (noise ++ (joined packets ++ rest))) → length noise ≤ p
        → p < length noise + length (joined packets) → Memᴰ (p, e) (packets_at (length noise) packets)
    only p e c lo hi = one (Memᴰ.append_cases w.sooner (subst (λ (l : List EventAt). Memᴰ (p, e) l) w.are c))
      where
        w : AllOut (read_from R closed 0 (noise ++ (joined packets ++ rest))) (length noise) packets
        w = whole_out

        two : Memᴰ (p, e) (packets_at (length noise) packets) ⊎ Memᴰ (p, e) w.later
            → Memᴰ (p, e) (packets_at (length noise) packets)
        two (inl d) = d
        two (inr d) = let z = w.begin_later p e d in absurd (omega arith)

        one : Memᴰ (p, e) w.sooner ⊎ Memᴰ (p, e) (packets_at (length noise) packets ++ w.later)
            → Memᴰ (p, e) (packets_at (length noise) packets)
        one (inl d) = let z = w.begin_sooner p e d in absurd (omega arith)
        one (inr d) = two (Memᴰ.append_cases (packets_at (length noise) packets) d)

    -- while the rest is a packet's beginning
    arriving : (more : List ℕ) → 0 < length more → R.WellFormed (rest ++ more) → Outcome R L open' packets rest good 0 noise
        → Before (length noise + length (joined packets)) (read_from R open' 0 (noise ++ (joined packets ++ rest)))
    arriving more k w (inl t) =
        let halt = stuck R L (0 + length noise + length (joined packets)) rest (L.partial_waits rest more w k) in
        rw (t.1, halt, append-nil)
        (before_append (length noise + length (joined packets)) t.0 (packets_at (0 + length noise) packets)
        (before_le (0 + length noise) (length noise + length (joined packets)) t.0 (omega arith) t.2)
        (simp zero-add (packets_before R L (length noise) packets good)))
    arriving more k w (inr t) = λ p e c. let z = t.2 p e c in omega arith

    -- once a byte less than the longest packet followed the noise, nothing in the noise waits
    through_noise : Followed R (joined packets ++ rest) → Outcome R L open' packets rest good 0 noise
        → Through R L open' packets rest good 0 noise
    through_noise h (inl t) = t
    through_noise h (inr t) =
        let x = t.1.0 in
        let y = t.1.1 in
        let e : length noise + length (joined packets ++ rest) ≡ length x + length y =
        sym (length-append noise (joined packets ++ rest)) ∙ ap length t.1.2 ∙ length-append x y in
        absurd (omega (arith, short R L y t.1.4, t.1.3))

  before_left : (n : ℕ) (s t : List EventAt) → Before n (s ++ t) → Before n s
  before_left n s t h p e c = h p e (Memᴰ.append_left t c)

  feed_last : (chunks : List (List ℕ)) (chunk : List ℕ) → EndsSilent (model R) [] (feeds chunks) (feed chunk) → (p : ℕ)
      → read_from R open' p (after (model R) [] (feeds chunks)) ≡ []
  unfolding after
  feed_last chunks chunk h p =
      rw (h.1, after_append R L [] h.0 (feed chunk ∷ [])) (feed_silent R L (after (model R) [] h.0) chunk h.2 p)

  from_empty : (chunks : List (List ℕ)) (g : ℕ) (noise : List ℕ) (packets : List (List ℕ)) (rest : List ℕ)
      → took (model R) [] (since chunks g) ≡ noise ++ (joined packets ++ rest) → AllWellFormed R packets
      → NoneAcross R noise (joined packets ++ rest) → Promised R (model R) [] chunks g noise packets rest
  unfolding reading
  from_empty chunks g noise packets rest is good across =
      record {
        counted = refl;
        firsts = k.firsts;
        all = all;
        reads = rw is (whole_out noise packets rest good across);
        only_packets = only_packets;
        none_arriving = none_arriving;
        out_by_gap = out_by_gap;
        out_by_feed = out_by_feed;
      }
    where
      k : Known chunks g
      k = known chunks g

      all : Finished (model R) [] chunks g
          → given_at R (model R) [] chunks g ≡ read_from R closed 0 (took (model R) [] (since chunks g))
      all f =
          sym
          (k.rest ∙ rw (finished_after [] chunks g f, nil R L closed k.at, append-nil))

      only_packets : (p : ℕ) (e : Event) → Memᴰ (p, e) (given_at R (model R) [] chunks g) → length noise ≤ p
          → p < length noise + length (joined packets) → Memᴰ (p, e) (packets_at (length noise) packets)
      only_packets p e c =
          only noise packets rest good across p e
          (subst (λ (l : List EventAt). Memᴰ (p, e) l) (sym k.rest ∙ rw is)
          (Memᴰ.append_left (read_from R closed k.at (after (model R) [] (since chunks g))) c))

      o : Open chunks
      o = open_known chunks

      -- what is read while the segment is open
      live : read_from R open' 0 (noise ++ (joined packets ++ rest)) ≡ given_at R (model R) [] chunks 0 ++ read_from R open'
          o.at
          (after (model R) [] (feeds chunks))
      live = ap (λ (s : List ℕ). read_from R open' 0 s) (sym is ∙ took_calls [] chunks g ∙ sym (took_calls [] chunks 0))
          ∙ o.rest

      none_arriving : g ≡ 0 → (more : List ℕ) → 0 < length more → R.WellFormed (rest ++ more)
          → Before (length noise + length (joined packets)) (given_at R (model R) [] chunks g)
      none_arriving z more l w =
          let n = length noise + length (joined packets) in
          rw z
          (before_left n (given_at R (model R) [] chunks 0) (read_from R open' o.at (after (model R) [] (feeds chunks)))
          (subst (λ (l : List EventAt). Before n l) live
          (arriving noise packets rest good across more l w (outcome noise packets rest good across open'))))

      out_by_gap : Finished (model R) [] chunks g → AllOut (given_at R (model R) [] chunks g) (length noise) packets
      out_by_gap f = rw (all f, is) (whole_out noise packets rest good across)

      out_by_feed : g ≡ 0 → (chunk : List ℕ) → EndsSilent (model R) [] (feeds chunks) (feed chunk)
          → Followed R (joined packets ++ rest) → AllOut (given_at R (model R) [] chunks g) (length noise) packets
      out_by_feed z chunk s l =
          rw z
          (all_out noise packets rest good across open' (given_at R (model R) [] chunks 0)
          (live ∙ rw (feed_last chunks chunk s o.at, append-nil (given_at R (model R) [] chunks 0)))
          (through_noise noise packets rest good across l (outcome noise packets rest good across open')))

  pub demand_3 : Demand3 R (model R)
  demand_3 h e =
      rw e (λ earlier f chunks g noise packets rest. rw (fresh earlier f) (from_empty chunks g noise packets rest))
