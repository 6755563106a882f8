-- What is held between calls: less than a longest packet, and only what waits. And what a call gives: well-formed packets.
use Rattle.std.specs.Prelude.{Some}
use mathlib.Core.Path.{◌≡◌, refl, sym, ◌∙◌}
use mathlib.Core.List.{List, [], ◌∷◌, ◌++◌}
use Prim.Native.Nat.{ℕ, ◌-◌, ◌≤◌, ◌<◌}
use native.Mathlib.Omega.{arith}
use lib.ListN.{length, take, drop, length-append, length-drop}
use Rattle.reading.specs.Rules.{Verdict, is_packet, is_bad_checksum, is_waiting, is_nothing, Rules, Laws}
use Rattle.reading.specs.Reading.{Event, packet, Mode, open', closed}
use Rattle.reading.specs.Calls.{First, event, silent, first_at, first, CallResult, fed_all, fed_on, fed, gapped, Call, feed, gap}
use Rattle.reading.specs.Calls.{call}
use Rattle.reading.specs.Lists.{model, after}
use Rattle.reading.specs.Calls.{HeldBound, FinishedEmpty}
use Rattle.reading.proofs.Offsets.{short, gap_silent}

module _ (R : Rules) (L : Laws R) where
  shrinks_at : (m : Mode) (b : ℕ) (s : List ℕ) (f : First) (v : Verdict) → R.verdict (b ∷ s) ≡ v
      → ((e : Event) (t : List ℕ) → f ≡ event e t → length t < length s) → (e : Event) (t : List ℕ)
      → first_at m v (b ∷ s) f ≡ event e t → length t < length (b ∷ s)
  shrinks_at m b s f (is_packet n) i h e t k =
      let z : drop n (b ∷ s) ≡ t = cc in
      let g = L.sound (b ∷ s) n i in
      rw (← z) (simp length-drop (omega arith))
  shrinks_at m b s f (is_bad_checksum id) i h e t k = let z : s ≡ t = cc in rw (← z) (omega arith)
  shrinks_at m b s f is_nothing i h e t k = let z = h e t k in omega arith
  shrinks_at closed b s f is_waiting i h e t k = let z = h e t k in omega arith
  shrinks_at open' b s f is_waiting i h e t k = let z : ◌≡◌ {A = ℕ} 0 1 = cc in absurd (omega arith)

  -- reading goes on behind the event's first byte at least
  pub shrinks : (m : Mode) (s : List ℕ) (e : Event) (t : List ℕ) → first R m s ≡ event e t → length t < length s
  unfolding first
  shrinks m [] = λ e t k. let z : ◌≡◌ {A = ℕ} 0 1 = cc in absurd (omega arith)
  shrinks m (b ∷ s) = shrinks_at m b s (first R m s) (R.verdict (b ∷ s)) refl (shrinks m s)

  resume_at : (b : ℕ) (s t x : List ℕ) (v : Verdict) → R.verdict (b ∷ s) ≡ v
      → (first R open' s ≡ silent t → first R open' (s ++ x) ≡ first R open' (t ++ x))
      → first_at open' v (b ∷ s) (first R open' s) ≡ silent t
      → first_at open' (R.verdict (b ∷ (s ++ x))) (b ∷ (s ++ x)) (first R open' (s ++ x)) ≡ first R open' (t ++ x)
  unfolding first
  resume_at b s t x (is_packet n) i h k = let z : ◌≡◌ {A = ℕ} 0 1 = cc in absurd (omega arith)
  resume_at b s t x (is_bad_checksum id) i h k = let z : ◌≡◌ {A = ℕ} 0 1 = cc in absurd (omega arith)
  resume_at b s t x is_nothing i h k = rw (L.stays (b ∷ s) x (λ w. let z : ◌≡◌ {A = ℕ} 0 1 = cc in omega arith) ∙ i) (h k)
  resume_at b s t x is_waiting i h k = let z : b ∷ s ≡ t = cc in rw (← z)

  -- where no event is decided, the waiting bytes alone decide what follows
  pub resume : (s t x : List ℕ) → first R open' s ≡ silent t → first R open' (s ++ x) ≡ first R open' (t ++ x)
  unfolding first
  resume [] t x k = let z : [] ≡ t = cc in rw (← z)
  resume (b ∷ s) t x k = resume_at b s t x (R.verdict (b ∷ s)) refl (resume s t x) k

  waits_at : (b : ℕ) (s t : List ℕ) (f : First) (v : Verdict) → R.verdict (b ∷ s) ≡ v
      → (f ≡ silent t → length t ≤ R.longest - 1) → first_at open' v (b ∷ s) f ≡ silent t → length t ≤ R.longest - 1
  waits_at b s t f (is_packet n) i h k = let z : ◌≡◌ {A = ℕ} 0 1 = cc in absurd (omega arith)
  waits_at b s t f (is_bad_checksum id) i h k = let z : ◌≡◌ {A = ℕ} 0 1 = cc in absurd (omega arith)
  waits_at b s t f is_nothing i h k = h k
  waits_at b s t f is_waiting i h k = let z : b ∷ s ≡ t = cc in rw (← z) (omega (arith, short R L (b ∷ s) i))

  pub waits_short : (s t : List ℕ) → first R open' s ≡ silent t → length t ≤ R.longest - 1
  unfolding first
  waits_short [] t k = let z : [] ≡ t = cc in rw (← z) (omega arith)
  waits_short (b ∷ s) t k = waits_at b s t (first R open' s) (R.verdict (b ∷ s)) refl (waits_short s t) k

  -- an event of the bytes h leaves less than a longest packet
  abbrev Leaves : List ℕ → Type 0
  Leaves h = (e : Event) (t : List ℕ) → first R open' h ≡ event e t → length t ≤ R.longest - 1

  leaves_more : (h t : List ℕ) (b : ℕ) → first R open' h ≡ silent t → Leaves (h ++ b ∷ [])
  leaves_more h t b k e u i =
      let a = waits_short h t k in
      let c = shrinks open' (t ++ b ∷ []) e u (sym (resume h t (b ∷ []) k) ∙ i) in
      omega (arith, length-append t (b ∷ []))

  all_held : (h : List ℕ) (f : First) → first R open' h ≡ f → Leaves h → length (fed_all f).held ≤ R.longest - 1
  all_held h (event e t) i l = l e t i
  all_held h (silent t) i l = waits_short h t i

  on_held : (h : List ℕ) (f : First) (r : CallResult) → first R open' h ≡ f → Leaves h
      → ((t : List ℕ) → f ≡ silent t → length r.held ≤ R.longest - 1) → length (fed_on f r).held ≤ R.longest - 1
  on_held h (event e t) r i l k = l e t i
  on_held h (silent t) r i l k = k t refl

  fed_held : (h s : List ℕ) → Leaves h → length (fed R h s).held ≤ R.longest - 1
  unfolding fed
  fed_held h [] l = all_held h (first R open' h) refl l
  fed_held h (b ∷ s) l =
      on_held h (first R open' h) (fed R (h ++ b ∷ []) s) refl l (λ t i. fed_held (h ++ b ∷ []) s (leaves_more h t b i))

  gapped_held : (h : List ℕ) (f : First) → first R closed h ≡ f → length h ≤ R.longest - 1
      → length (gapped f).held ≤ R.longest - 1
  gapped_held h (event e t) i l = let z = shrinks closed h e t i in omega arith
  gapped_held h (silent t) i l = omega arith

  pub held_bound : HeldBound R
  unfolding call
  held_bound h (feed s) l = fed_held h s (λ e t i. let z = shrinks open' h e t i in omega arith)
  held_bound h gap l = gapped_held h (first R closed h) refl l

  pub after_held : (h : List ℕ) (cs : List Call) → length h ≤ R.longest - 1 → length (after (model R) h cs) ≤ R.longest - 1
  unfolding after
  after_held h [] l = l
  after_held h (c ∷ cs) l = after_held (call R h c).held cs (held_bound h c l)

  pub finished_empty : FinishedEmpty R
  finished_empty = gap_silent R L

  -- ---- a packet that a call gives is well-formed

  good_at : (m : Mode) (b : ℕ) (s : List ℕ) (f : First) (v : Verdict) → R.verdict (b ∷ s) ≡ v → (w : List ℕ)
      → ((t : List ℕ) → f ≡ event (packet w) t → R.WellFormed w) → (t : List ℕ) → first_at m v (b ∷ s) f ≡ event (packet w) t
      → R.WellFormed w
  good_at m b s f (is_packet n) i w h t k =
      let z : take n (b ∷ s) ≡ w = cc in
      rw z at (L.sound (b ∷ s) n i).2
  good_at m b s f (is_bad_checksum id) i w h t k = let z : ◌≡◌ {A = ℕ} 0 1 = cc in absurd (omega arith)
  good_at m b s f is_nothing i w h t k = h t k
  good_at closed b s f is_waiting i w h t k = h t k
  good_at open' b s f is_waiting i w h t k = let z : ◌≡◌ {A = ℕ} 0 1 = cc in absurd (omega arith)

  first_good : (m : Mode) (s w t : List ℕ) → first R m s ≡ event (packet w) t → R.WellFormed w
  unfolding first
  first_good m [] w t k = let z : ◌≡◌ {A = ℕ} 0 1 = cc in absurd (omega arith)
  first_good m (b ∷ s) w t k = good_at m b s (first R m s) (R.verdict (b ∷ s)) refl w (first_good m s w) t k

  all_good : (h w : List ℕ) (f : First) → first R open' h ≡ f → (fed_all f).answer ≡ Some (packet w) → R.WellFormed w
  all_good h w (event e t) i k = let z : e ≡ packet w = cc in first_good open' h w t (rw z at i)
  all_good h w (silent t) i k = let z : ◌≡◌ {A = ℕ} 0 1 = cc in absurd (omega arith)

  on_good : (h w : List ℕ) (f : First) (r : CallResult) → first R open' h ≡ f → (r.answer ≡ Some (packet w) → R.WellFormed w)
      → (fed_on f r).answer ≡ Some (packet w) → R.WellFormed w
  on_good h w (event e t) r i g k = let z : e ≡ packet w = cc in first_good open' h w t (rw z at i)
  on_good h w (silent t) r i g k = g k

  fed_good : (h s w : List ℕ) → (fed R h s).answer ≡ Some (packet w) → R.WellFormed w
  unfolding fed
  fed_good h [] w k = all_good h w (first R open' h) refl k
  fed_good h (b ∷ s) w k = on_good h w (first R open' h) (fed R (h ++ b ∷ []) s) refl (fed_good (h ++ b ∷ []) s w) k

  gapped_good : (h w : List ℕ) (f : First) → first R closed h ≡ f → (gapped f).answer ≡ Some (packet w) → R.WellFormed w
  gapped_good h w (event e t) i k = let z : e ≡ packet w = cc in first_good closed h w t (rw z at i)
  gapped_good h w (silent t) i k = let z : ◌≡◌ {A = ℕ} 0 1 = cc in absurd (omega arith)

  pub packet_good : (h : List ℕ) (c : Call) (w : List ℕ) → (call R h c).answer ≡ Some (packet w) → R.WellFormed w
  unfolding call
  packet_good h (feed s) w k = fed_good h s w k
  packet_good h gap w k = gapped_good h w (first R closed h) refl k
