-- How a feeding call gets on: it passes what is decided and silent, and takes what a waiting offset lacks in one go.
use Rattle.std.specs.Prelude.{None, Some}
use mathlib.Core.Path.{◌≡◌, refl, sym, ap, ◌∙◌}
use mathlib.Core.List.{List, [], ◌∷◌, ◌++◌, append-nil, append_assoc}
use mathlib.Core.Logic.{◌⊎◌, inl, inr}
use Prim.Native.Nat.{ℕ, zero, suc, ◌+◌, ◌-◌, ◌≤◌, ◌<◌}
use native.Mathlib.Omega.{arith}
use lib.ListN.{length, take, drop, length-append, length-take, length-drop, take-append-drop}
use lib.Seq.{length-take-le, take-append-le, drop-append-le, drop-drop, drop-length}
use native.Mathlib.Decide.{dec_le}
use Rattle.reading.specs.Rules.{Verdict, is_packet, is_waiting, is_nothing, Undecided, Rules, Laws}
use Rattle.reading.specs.Reading.{Event, Mode, open', closed}
use Rattle.reading.specs.Calls.{First, event, silent, first_at, first, CallResult, one_more, fed, fed_all, fed_on}
use Rattle.reading.specs.Progress.{after_taking, Reached, Patient}
use Rattle.reading.proofs.Offsets.{short}
use Rattle.reading.proofs.Fewest.{same_result}
use Rattle.reading.proofs.Held.{resume}

taking_none : (r : CallResult) → r ≡ after_taking 0 r
taking_none r = same_result r (after_taking 0 r) (omega arith) refl refl

taking_more : (n m : ℕ) (r : CallResult) → after_taking n (after_taking m r) ≡ after_taking (n + m) r
taking_more n m r = same_result (after_taking n (after_taking m r)) (after_taking (n + m) r) (omega arith) refl refl

one_more_lem : (m : ℕ) (r : CallResult) → one_more (after_taking m r) ≡ after_taking (suc m) r
one_more_lem m r = same_result (one_more (after_taking m r)) (after_taking (suc m) r) (omega arith) refl refl

module _ (R : Rules) where
  -- ---- the first event, where the verdict at an offset is known

  pub first_at_lem : (m : Mode) (s : List ℕ) (v : Verdict) → 0 < length s → R.verdict s ≡ v
      → first R m s ≡ first_at m v s (first R m (drop 1 s))
  unfolding first
  first_at_lem m [] v h e = absurd (omega arith)
  first_at_lem m (b ∷ s) v h e = ap (λ (w : Verdict). first_at m w (b ∷ s) (first R m s)) e

  pub first_none : (m : Mode) → first R m [] ≡ silent []
  unfolding first
  first_none m = refl

  pub first_waits : (s : List ℕ) → R.verdict s ≡ is_waiting → first R open' s ≡ silent s
  unfolding first
  first_waits [] e = refl
  first_waits (b ∷ s) e = first_at_lem open' (b ∷ s) is_waiting (omega arith) e

  -- so few bytes that none of them decides an event have none, if no others follow
  pub first_few : (n : ℕ) → ((u : List ℕ) → length u < n → Undecided (R.verdict u)) → (t : List ℕ) → length t < n
      → first R closed t ≡ silent []
  first_few n q [] h = first_none closed
  first_few n q (b ∷ t) h = by (q (b ∷ t) h) (first_few n q t (omega arith))
    where
      by : Undecided (R.verdict (b ∷ t)) → first R closed t ≡ silent [] → first R closed (b ∷ t) ≡ silent []
      by (inl w) later = first_at_lem closed (b ∷ t) is_waiting (omega arith) w ∙ later
      by (inr w) later = first_at_lem closed (b ∷ t) is_nothing (omega arith) w ∙ later

  -- while others may follow they are silent
  pub silent_few : (n : ℕ) → ((u : List ℕ) → length u < n → Undecided (R.verdict u)) → (t : List ℕ) → length t < n
      → (u : List ℕ) × (first R open' t ≡ silent u)
  silent_few n q [] h = ([], first_none open')
  silent_few n q (b ∷ t) h = by (q (b ∷ t) h) (silent_few n q t (omega arith))
    where
      by : Undecided (R.verdict (b ∷ t)) → (u : List ℕ) × (first R open' t ≡ silent u)
          → (u : List ℕ) × (first R open' (b ∷ t) ≡ silent u)
      by (inl w) later = (b ∷ t, first_waits (b ∷ t) w)
      by (inr w) later = (later.0, first_at_lem open' (b ∷ t) is_nothing (omega arith) w ∙ later.1)

  -- ---- how far a feeding call has come

  pub reached_start : (h s : List ℕ) → Reached R h s h 0
  reached_start h s = record { within = omega arith; same = taking_none (fed R h s) }

  pub reached_more : (h s t u : List ℕ) (n m : ℕ) → Reached R h s t n → Reached R t (drop n s) u m → Reached R h s u (n + m)
  reached_more h s t u n m a b =
      let w = a.within in
      let w' = b.within in
      record {
        within = omega (arith, length-drop n s);
        same =
            a.same ∙ ap (after_taking n) b.same ∙ taking_more n m (fed R u (drop m (drop n s)))
            ∙ ap (λ (l : List ℕ). after_taking (n + m) (fed R u l)) (drop-drop m n s);
      }

  -- the bytes that are left decide an event, and it is the call's
  pub reached_event : (h s t u : List ℕ) (n : ℕ) (e : Event) → Reached R h s t n → first R open' t ≡ event e u
      → fed R h s ≡ record { taken = n; answer = Some e; held = u }
  unfolding fed
  reached_event h s t u n e a f =
      a.same ∙ ap (after_taking n) (at_once (drop n s))
      ∙ same_result (after_taking n (record { taken = 0; answer = Some e; held = u }))
      (record { taken = n; answer = Some e; held = u })
      (omega arith) refl refl
    where
      at_once : (x : List ℕ) → fed R t x ≡ record { taken = 0; answer = Some e; held = u }
      at_once [] = ap fed_all f
      at_once (b ∷ x) = ap (λ (g : First). fed_on g (fed R (t ++ b ∷ []) x)) f

  -- they decide none, and the whole chunk is taken
  pub reached_end : (h s t u : List ℕ) → Reached R h s t (length s) → first R open' t ≡ silent u
      → fed R h s ≡ record { taken = length s; answer = None; held = u }
  unfolding fed
  reached_end h s t u a f =
      a.same ∙ ap (λ (l : List ℕ). after_taking (length s) (fed R t l)) (drop-length s)
      ∙ ap (λ (g : First). after_taking (length s) (fed_all g)) f
      ∙ same_result (after_taking (length s) (record { taken = 0; answer = None; held = u }))
      (record { taken = length s; answer = None; held = u }) (omega arith) refl refl

  silent_more : (h : List ℕ) (b : ℕ) (s t : List ℕ) → first R open' h ≡ silent t
      → fed R h (b ∷ s) ≡ one_more (fed R (h ++ b ∷ []) s)
  unfolding fed
  silent_more h b s t f = ap (λ (g : First). fed_on g (fed R (h ++ b ∷ []) s)) f

  -- bytes with fewer of which nothing is decided are taken in one go
  take_silent : (m : ℕ) (h s : List ℕ) → m ≤ length s
      → ((k : ℕ) → k < m → (t : List ℕ) × (first R open' (h ++ take k s) ≡ silent t))
      → fed R h s ≡ after_taking m (fed R (h ++ take m s) (drop m s))
  take_silent zero h s l q = rw append-nil (taking_none (fed R h s))
  take_silent (suc m) h [] l q = absurd (omega arith)
  take_silent (suc m) h (b ∷ s) l q =
      let g = q 0 (omega arith) in
      silent_more h b s g.0 (simp append-nil at g.1)
      ∙ ap one_more
      (take_silent m (h ++ b ∷ []) s (omega arith)
      (λ k i. let f = q (suc k) (omega arith) in (f.0, rw (append_assoc h (b ∷ []) (take k s)) f.1)))
      ∙ one_more_lem m (fed R ((h ++ b ∷ []) ++ take m s) (drop m s))
      ∙ rw (append_assoc h (b ∷ []) (take m s))

module _ (R : Rules) (L : Laws R) where
  fed_same : (h t s : List ℕ) → ((x : List ℕ) → first R open' (h ++ x) ≡ first R open' (t ++ x)) → fed R h s ≡ fed R t s
  unfolding fed
  fed_same h t [] k = ap fed_all (simp append-nil at (k []))
  fed_same h t (b ∷ s) k =
      same_on (first R open' h) (first R open' t) (fed R (h ++ b ∷ []) s) (fed R (t ++ b ∷ []) s) (simp append-nil at (k []))
      (fed_same (h ++ b ∷ []) (t ++ b ∷ []) s (λ x. simp append_assoc (k (b ∷ x))))
    where
      same_on : (f f' : First) (r r' : CallResult) → f ≡ f' → r ≡ r' → fed_on f r ≡ fed_on f' r'
      same_on f f' r r' e i = cc

  -- offsets that are past may be dropped: what waits decides alone
  pub fed_resume : (h t s : List ℕ) → first R open' h ≡ silent t → fed R h s ≡ fed R t s
  fed_resume h t s k = fed_same h t s (λ x. resume R L h t x k)

  pub reached_past : (h s t u : List ℕ) (n : ℕ) → Reached R h s t n → first R open' t ≡ silent u → Reached R h s u n
  reached_past h s t u n a f = record { within = a.within; same = a.same ∙ ap (after_taking n) (fed_resume t u (drop n s) f) }

  -- so may an offset that says nothing
  pub reached_nothing : (h s t : List ℕ) (n : ℕ) → 0 < length t → R.verdict t ≡ is_nothing → Reached R h s t n → Reached R h s (drop 1 t) n
  reached_nothing h s t n l e a =
      record { within = a.within; same = a.same ∙ ap (after_taking n) (fed_same t (drop 1 t) (drop n s) skip) }
    where
      skip : (x : List ℕ) → first R open' (t ++ x) ≡ first R open' (drop 1 t ++ x)
      skip x =
          first_at_lem R open' (t ++ x) is_nothing (omega (arith, length-append t x))
          (L.stays t x (λ w. let z : ◌≡◌ {A = ℕ} 0 1 = cc in omega arith) ∙ e)
          ∙ ap (λ (y : List ℕ). first R open' y) (drop-append-le 1 t x (omega arith))

  pub silent_again : (s t : List ℕ) → first R open' s ≡ silent t → first R open' t ≡ silent t
  silent_again s t f = sym (simp append-nil at (resume R L s t [] f)) ∙ f

  -- no offset of these bytes decides an event
  none_decided : (y : List ℕ) → ((t u : List ℕ) → y ≡ t ++ u → Undecided (R.verdict u))
      → (t : List ℕ) × (first R open' y ≡ silent t)
  none_decided [] q = ([], first_none R open')
  none_decided (b ∷ s) q = by (q [] (b ∷ s) refl) (none_decided s (λ t u e. q (b ∷ t) u (ap {B = List ℕ} (λ l. b ∷ l) e)))
    where
      by : Undecided (R.verdict (b ∷ s)) → (t : List ℕ) × (first R open' s ≡ silent t)
          → (t : List ℕ) × (first R open' (b ∷ s) ≡ silent t)
      by (inl w) r = (b ∷ s, first_waits R (b ∷ s) w)
      by (inr w) r = (r.0, first_at_lem R open' (b ∷ s) is_nothing (omega arith) w ∙ r.1)

  -- what waits is patient
  pub waiting_patient : (t : List ℕ) → R.verdict t ≡ is_waiting → Patient R t (R.lacks t)
  waiting_patient t e = record { some = L.lacking t e; room = L.room t e; silent_while = λ x l. by x (L.patient t x e l) }
    where
      by : (x : List ℕ) → (R.verdict (t ++ x) ≡ is_waiting) ⊎ ((a u : List ℕ) → t ++ x ≡ a ++ u → Undecided (R.verdict u))
          → (u : List ℕ) × (first R open' (t ++ x) ≡ silent u)
      by x (inl w) = (t ++ x, first_waits R (t ++ x) w)
      by x (inr q) = none_decided (t ++ x) q

  -- no packet is longer than the longest
  pub packet_short : (s : List ℕ) (n : ℕ) → R.verdict s ≡ is_packet n → n ≤ R.longest
  packet_short s n e =
      let g = L.sound s n e in
      let w = take n s in
      let l : length w ≡ n = length-take-le n s g.1 in
      let whole : take (n - 1) w ++ drop (n - 1) w ≡ w = take-append-drop (n - 1) w in
      let some : 0 < length (drop (n - 1) w) = simp length-drop (omega (arith, g.0)) in
      let waits = L.partial_waits (take (n - 1) w) (drop (n - 1) w) (rw whole g.2) some in
      omega (arith, short R L (take (n - 1) w) waits, length-take-le (n - 1) w (omega arith), g.0)

  -- a packet that is decided by a byte ends with it
  pub last_byte : (t u : List ℕ) (b n : ℕ) → first R open' t ≡ silent u → R.verdict (t ++ b ∷ []) ≡ is_packet n → n ≡ suc (length t)
  last_byte t u b n f e = by (dec_le n (length t))
    where
      g : (0 < n) × (n ≤ length (t ++ b ∷ [])) × R.WellFormed (take n (t ++ b ∷ []))
      g = L.sound (t ++ b ∷ []) n e

      sooner : n ≤ length t → ⊥
      sooner l =
          let w : R.WellFormed (take n t) = rw (take-append-le n t (b ∷ []) l) at g.2 in
          let v : R.verdict t ≡ is_packet (length (take n t)) = rw (take-append-drop n t) at (L.whole (take n t) (drop n t) w) in
          let k = first_at_lem R open' t (is_packet (length (take n t))) (omega (arith, g.0)) v in
          let z : ◌≡◌ {A = ℕ} 0 1 = cc in
          omega arith

      by : Dec (n ≤ length t) → n ≡ suc (length t)
      by (yes l) = absurd (sooner l)
      by (no l) = omega (arith, g.1, length-append t (b ∷ []))

module _ (R : Rules) where
  -- where no event is decided, and there is room, a byte is wanted
  pub silent_patient : (t : List ℕ) → length t < R.longest → first R open' t ≡ silent t → Patient R t 1
  silent_patient t h e =
      record {
        some = omega arith;
        room = omega arith;
        silent_while = λ x l. let z : x ≡ [] = empty x l in (t, rw (z, append-nil) e);
      }
    where
      empty : (x : List ℕ) → length x < 1 → x ≡ []
      empty [] l = refl
      empty (b ∷ x) l = absurd (omega arith)

  -- bytes with fewer of which nothing is decided are taken in one go
  pub reached_silent : (h s : List ℕ) (m : ℕ) → m ≤ length s
      → ((k : ℕ) → k < m → (t : List ℕ) × (first R open' (h ++ take k s) ≡ silent t)) → Reached R h s (h ++ take m s) m
  reached_silent h s m l q = record { within = l; same = take_silent R m h s l q }

  -- so are as many as it waits for
  pub reached_take : (h s t : List ℕ) (n m k : ℕ) → Reached R h s t n → Patient R t k → m ≤ k → n + m ≤ length s
      → Reached R h s (t ++ take m (drop n s)) (n + m)
  reached_take h s t n m k a p l fits =
      reached_more R h s t (t ++ take m (drop n s)) n m a
      (reached_silent t (drop n s) m (simp length-drop (omega arith))
      (λ j i. p.silent_while (take j (drop n s)) (simp (length-take, length-drop) (omega arith))))

  -- and so few that none of them decides an event may be given back to the chunk
  pub reached_back : (m : ℕ) → ((u : List ℕ) → length u < m → Undecided (R.verdict u)) → (h s t : List ℕ) (n k : ℕ) → Reached R h s t n
      → k ≤ n → k < m → t ≡ take k (drop (n - k) s) → Reached R h s [] (n - k)
  reached_back m q h s t n k a l f e =
      let z : n - k + k ≡ n = omega arith in
      let i = a.within in
      let b = reached_silent [] (drop (n - k) s) k (simp length-drop (omega arith)) (λ j p. silent_few R m q (take j (drop (n - k) s)) (simp length-take (omega arith))) in
      record {
        within = omega arith;
        same =
            a.same
            ∙ sym
            (ap (after_taking (n - k)) b.same ∙ taking_more (n - k) k (fed R (take k (drop (n - k) s)) (drop k (drop (n - k) s)))
            ∙ ap (λ (l : List ℕ). after_taking (n - k + k) (fed R (take k (drop (n - k) s)) l)) (drop-drop k (n - k) s)
            ∙ ap (λ (j : ℕ). after_taking j (fed R (take k (drop (n - k) s)) (drop j s))) z
            ∙ ap (λ (u : List ℕ). after_taking n (fed R u (drop n s))) (sym e));
      }
