-- The reading unfolds offset by offset, and what is decided while the segment is open stays so.
use Rattle.std.specs.Prelude.{None, Option, Some}
use mathlib.Core.Path.{◌≡◌, refl, sym, ap, ◌∙◌}
use mathlib.Core.List.{List, [], ◌∷◌, ◌++◌, map, append-nil, append_assoc}
use Prim.Native.Nat.{ℕ, zero, suc, ◌+◌, ◌≤◌, ◌<◌}
use native.Mathlib.Omega.{arith}
use lib.ListN.{length, take, drop, length-drop}
use lib.Seq.{take-append-le, drop-append-le, take-nil}
use Rattle.reading.specs.Rules.{Verdict, is_packet, is_bad_checksum, is_waiting, is_nothing, Rules, Laws}
use Rattle.reading.specs.Reading.{Event, packet, bad_checksum, EventAt, Mode, open', closed, at_offset, read_fuel, read_from}
use Rattle.reading.specs.Promise.{what}
use Rattle.reading.specs.Calls.{First, event, silent, first_at, first, fed, fed_all, fed_on, gapped, CallResult, Call, feed, gap}
use Rattle.reading.specs.Calls.{call}
use Rattle.reading.specs.Lists.{model, feeds, gaps, chunk_of, listed, after, took, given}

pub map_append : (s t : List EventAt) → map what (s ++ t) ≡ map what s ++ map what t
map_append [] t = refl
map_append (e ∷ s) t = ap {B = List Event} (λ l. what e ∷ l) (map_append s t)

module _ (R : Rules) (L : Laws R) where
  same : (m : Mode) (v : Verdict) (p b : ℕ) (s : List ℕ) (go go' : ℕ → List ℕ → List EventAt) → R.verdict (b ∷ s) ≡ v
      → ((q : ℕ) (t : List ℕ) → length t ≤ length s → go q t ≡ go' q t) → at_offset m v p (b ∷ s) go ≡ at_offset m v p (b ∷ s) go'
  same m (is_packet n) p b s go go' e h =
      let k = L.sound (b ∷ s) n e in
      ap {B = List EventAt} (λ l. (p, packet (take n (b ∷ s))) ∷ l) (h (p + n) (drop n (b ∷ s)) (simp length-drop (omega arith)))
  same m (is_bad_checksum i) p b s go go' e h = ap {B = List EventAt} (λ l. (p, bad_checksum i) ∷ l) (h (p + 1) s (omega arith))
  same m is_nothing p b s go go' e h = h (p + 1) s (omega arith)
  same closed is_waiting p b s go go' e h = h (p + 1) s (omega arith)
  same open' is_waiting p b s go go' e h = refl

  fuel : (m : Mode) (f g p : ℕ) (s : List ℕ) → length s ≤ f → length s ≤ g → read_fuel R m f p s ≡ read_fuel R m g p s
  unfolding read_fuel
  fuel m zero zero p s hf hg = refl
  fuel m zero (suc g) p [] hf hg = refl
  fuel m zero (suc g) p (b ∷ s) hf hg = absurd (omega arith)
  fuel m (suc f) zero p [] hf hg = refl
  fuel m (suc f) zero p (b ∷ s) hf hg = absurd (omega arith)
  fuel m (suc f) (suc g) p [] hf hg = refl
  fuel m (suc f) (suc g) p (b ∷ s) hf hg =
      same m (R.verdict (b ∷ s)) p b s (λ q t. read_fuel R m f q t) (λ q t. read_fuel R m g q t) refl
      (λ q t k. fuel m f g q t (omega arith) (omega arith))

  -- the reading at a offset whose verdict is known
  pub step : (m : Mode) (p b : ℕ) (s : List ℕ) (v : Verdict) → R.verdict (b ∷ s) ≡ v
      → read_from R m p (b ∷ s) ≡ at_offset m v p (b ∷ s) (λ q t. read_from R m q t)
  unfolding read_fuel read_from
  step m p b s v e =
      same m (R.verdict (b ∷ s)) p b s (λ q t. read_fuel R m (length s) q t) (λ q t. read_fuel R m (length t) q t) refl
      (λ q t k. fuel m (length s) (length t) q t k (omega arith))
      ∙ ap (λ (w : Verdict). at_offset m w p (b ∷ s) (λ q t. read_fuel R m (length t) q t)) e

  -- what waits is shorter than the longest packet
  pub short : (s : List ℕ) → R.verdict s ≡ is_waiting → length s < R.longest
  short s e = omega (arith, L.lacking s e, L.room s e)

  pub nil : (m : Mode) (p : ℕ) → read_from R m p [] ≡ []
  unfolding read_fuel read_from
  nil m p = refl

  pub stuck : (p : ℕ) (s : List ℕ) → R.verdict s ≡ is_waiting → read_from R open' p s ≡ []
  stuck p [] e = nil open' p
  stuck p (b ∷ s) e = step open' p b s is_waiting e

  -- whatever follows s, and whether the segment is open or not, the reading of s gives the events es and goes on at t
  abbrev pub Sure : List ℕ → List Event → List ℕ → Type 0
  Sure s es t =
      (p : ℕ) → (out : List EventAt) × (q : ℕ) × (map what out ≡ es) ×
      ((m : Mode) (x : List ℕ) → read_from R m p (s ++ x) ≡ out ++ read_from R m q (t ++ x))

  pub sure_nil : (s : List ℕ) → Sure s [] s
  sure_nil s p = ([], p, refl, λ m x. refl)

  pub compose : (a b c t : List ℕ) (es fs : List Event) → Sure a es b → Sure (b ++ t) fs c → Sure (a ++ t) (es ++ fs) c
  compose a b c t es fs h k p =
      let r = h p in
      let r' = k r.1 in (
        r.0 ++ r'.0,
        r'.1,
        map_append r.0 r'.0 ∙ (cc),
        λ m x. rw (append_assoc a t x) (r.3 m (t ++ x) ∙ ap (λ (l : List EventAt). r.0 ++ l) (rw append_assoc at (r'.3 m x))
            ∙ sym (append_assoc r.0 r'.0 (read_from R m r'.1 (c ++ x)))),
      )

  -- the three verdicts that are decided stay, whatever follows
  keep_nothing : (s x : List ℕ) → R.verdict s ≡ is_nothing → R.verdict (s ++ x) ≡ is_nothing
  keep_nothing s x e = L.stays s x (λ w. let z : ◌≡◌ {A = ℕ} 0 1 = cc in omega arith) ∙ e

  keep_packet : (s x : List ℕ) (n : ℕ) → R.verdict s ≡ is_packet n → R.verdict (s ++ x) ≡ is_packet n
  keep_packet s x n e = L.stays s x (λ w. let z : ◌≡◌ {A = ℕ} 0 1 = cc in omega arith) ∙ e

  keep_bad_checksum : (s x : List ℕ) (i : ℕ) → R.verdict s ≡ is_bad_checksum i → R.verdict (s ++ x) ≡ is_bad_checksum i
  keep_bad_checksum s x i e = L.stays s x (λ w. let z : ◌≡◌ {A = ℕ} 0 1 = cc in omega arith) ∙ e

  past : (b : ℕ) (s : List ℕ) (es : List Event) (t : List ℕ) → R.verdict (b ∷ s) ≡ is_nothing → Sure s es t → Sure (b ∷ s) es t
  past b s es t e h p =
      let r = h (p + 1) in
      (r.0, r.1, r.2, λ m x. step m p b (s ++ x) is_nothing (keep_nothing (b ∷ s) x e) ∙ r.3 m x)

  on_packet : (b : ℕ) (s : List ℕ) (n : ℕ) → R.verdict (b ∷ s) ≡ is_packet n
      → Sure (b ∷ s) (packet (take n (b ∷ s)) ∷ []) (drop n (b ∷ s))
  on_packet b s n e p =
      let k = L.sound (b ∷ s) n e in
      let fits : n ≤ length (b ∷ s) = omega arith in (
        ((p, packet (take n (b ∷ s))) ∷ []),
        p + n,
        refl,
        λ m x.
            step m p b (s ++ x) (is_packet n) (keep_packet (b ∷ s) x n e)
            ∙ rw (take-append-le n (b ∷ s) x fits, drop-append-le n (b ∷ s) x fits),
      )

  on_bad_checksum : (b : ℕ) (s : List ℕ) (i : ℕ) → R.verdict (b ∷ s) ≡ is_bad_checksum i → Sure (b ∷ s) (bad_checksum i ∷ []) s
  on_bad_checksum b s i e p =
      (((p, bad_checksum i) ∷ []), p + 1, refl, λ m x. step m p b (s ++ x) (is_bad_checksum i) (keep_bad_checksum (b ∷ s) x i e))

  abbrev SureFirst : List ℕ → First → Type 0
  SureFirst s (event e t) = Sure s (e ∷ []) t
  SureFirst s (silent t) = Sure s [] t × ((p : ℕ) → read_from R open' p t ≡ [])

  past_first : (b : ℕ) (s : List ℕ) (f : First) → R.verdict (b ∷ s) ≡ is_nothing → SureFirst s f → SureFirst (b ∷ s) f
  past_first b s (event x t) e h = past b s (x ∷ []) t e h
  past_first b s (silent t) e h = (past b s [] t e h.0, h.1)

  -- the first event while the segment is open
  first_at_lem : (b : ℕ) (s : List ℕ) (f : First) (v : Verdict) → R.verdict (b ∷ s) ≡ v → SureFirst s f
      → SureFirst (b ∷ s) (first_at open' v (b ∷ s) f)
  first_at_lem b s f (is_packet n) e h = on_packet b s n e
  first_at_lem b s f (is_bad_checksum i) e h = on_bad_checksum b s i e
  first_at_lem b s f is_nothing e h = past_first b s f e h
  first_at_lem b s f is_waiting e h = (sure_nil (b ∷ s), λ p. stuck p (b ∷ s) e)

  first_sure : (s : List ℕ) → SureFirst s (first R open' s)
  unfolding first
  first_sure [] = (sure_nil [], λ p. nil open' p)
  first_sure (b ∷ s) = first_at_lem b s (first R open' s) (R.verdict (b ∷ s)) refl (first_sure s)

  -- a feeding call on a reader that holds h; where it gives no event, the reading of what it leaves waits
  abbrev Quiet : Option Event → List ℕ → Type 0
  Quiet None t = (p : ℕ) → read_from R open' p t ≡ []
  Quiet (Some e) t = Unit {0}

  abbrev SureFed : List ℕ → List ℕ → CallResult → Type 0
  SureFed h s r = Sure (h ++ take r.taken s) (listed r.answer) r.held × Quiet r.answer r.held

  fed_all_lem : (h : List ℕ) (f : First) → SureFirst h f → SureFed h [] (fed_all f)
  fed_all_lem h (event e t) k = (rw append-nil k, tt)
  fed_all_lem h (silent t) k = (rw append-nil k.0, k.1)

  fed_on_lem : (h : List ℕ) (b : ℕ) (s : List ℕ) (f : First) (r : CallResult) → SureFirst h f → SureFed (h ++ (b ∷ [])) s r
      → SureFed h (b ∷ s) (fed_on f r)
  fed_on_lem h b s (event e t) r k l = (rw append-nil k, tt)
  fed_on_lem h b s (silent t) r k l = (rw append_assoc at l.0, l.1)

  pub fed_sure : (h s : List ℕ) → SureFed h s (fed R h s)
  unfolding fed
  fed_sure h [] = fed_all_lem h (first R open' h) (first_sure h)
  fed_sure h (b ∷ s) = fed_on_lem h b s (first R open' h) (fed R (h ++ (b ∷ [])) s) (first_sure h) (fed_sure (h ++ (b ∷ [])) s)

  -- feeding calls
  pub feeds_sure : (h : List ℕ) (ss : List (List ℕ))
      → Sure (h ++ took (model R) h (feeds ss)) (given (model R) h (feeds ss)) (after (model R) h (feeds ss))
  unfolding call took given after
  feeds_sure h [] = rw append-nil (sure_nil h)
  feeds_sure h (s ∷ ss) =
      let r = fed R h s in
      rw (← append_assoc)
      (compose (h ++ take r.taken s) r.held (after (model R) r.held (feeds ss)) (took (model R) r.held (feeds ss))
      (listed r.answer) (given (model R) r.held (feeds ss))
      (fed_sure h s).0 (feeds_sure r.held ss))

  -- gap calls: the segment closed with s
  abbrev pub Ends : List ℕ → List Event → List ℕ → Type 0
  Ends s es t =
      (p : ℕ) → (out : List EventAt) × (q : ℕ) × (map what out ≡ es) × (read_from R closed p s ≡ out ++ read_from R closed q t)

  pub sure_ends : (s : List ℕ) (es : List Event) (t : List ℕ) → Sure s es t → Ends s es t
  sure_ends s es t h p = let r = h p in (r.0, r.1, r.2, simp append-nil at (r.3 closed []))

  pub ends_compose : (a b c : List ℕ) (es fs : List Event) → Ends a es b → Ends b fs c → Ends a (es ++ fs) c
  ends_compose a b c es fs h k p =
      let r = h p in
      let r' = k r.1 in (
        r.0 ++ r'.0,
        r'.1,
        map_append r.0 r'.0 ∙ (cc),
        r.3 ∙ ap (λ (l : List EventAt). r.0 ++ l) r'.3 ∙ sym (append_assoc r.0 r'.0 (read_from R closed r'.1 c)),
      )

  abbrev EndsFirst : List ℕ → First → Type 0
  EndsFirst s (event e t) = Ends s (e ∷ []) t
  EndsFirst s (silent t) = Ends s [] []

  ends_past : (b : ℕ) (s : List ℕ) (es : List Event) (t : List ℕ)
      → ((p : ℕ) → read_from R closed p (b ∷ s) ≡ read_from R closed (p + 1) s) → Ends s es t → Ends (b ∷ s) es t
  ends_past b s es t e h p = let r = h (p + 1) in (r.0, r.1, r.2, e p ∙ r.3)

  ends_past_first : (b : ℕ) (s : List ℕ) (f : First) → ((p : ℕ) → read_from R closed p (b ∷ s) ≡ read_from R closed (p + 1) s)
      → EndsFirst s f → EndsFirst (b ∷ s) f
  ends_past_first b s (event x t) e h = ends_past b s (x ∷ []) t e h
  ends_past_first b s (silent t) e h = ends_past b s [] [] e h

  ends_at : (b : ℕ) (s : List ℕ) (f : First) (v : Verdict) → R.verdict (b ∷ s) ≡ v → EndsFirst s f
      → EndsFirst (b ∷ s) (first_at closed v (b ∷ s) f)
  ends_at b s f (is_packet n) e h = sure_ends (b ∷ s) (packet (take n (b ∷ s)) ∷ []) (drop n (b ∷ s)) (on_packet b s n e)
  ends_at b s f (is_bad_checksum i) e h = sure_ends (b ∷ s) (bad_checksum i ∷ []) s (on_bad_checksum b s i e)
  ends_at b s f is_nothing e h = ends_past_first b s f (λ p. step closed p b s is_nothing e) h
  ends_at b s f is_waiting e h = ends_past_first b s f (λ p. step closed p b s is_waiting e) h

  first_ends : (s : List ℕ) → EndsFirst s (first R closed s)
  unfolding first
  first_ends [] = λ p. ([], p, refl, refl)
  first_ends (b ∷ s) = ends_at b s (first R closed s) (R.verdict (b ∷ s)) refl (first_ends s)

  gapped_ends : (h : List ℕ) (f : First) → EndsFirst h f → Ends h (listed (gapped f).answer) (gapped f).held
  gapped_ends h (event e t) k = k
  gapped_ends h (silent t) k = k

  pub gaps_end : (h : List ℕ) (g : ℕ) → Ends h (given (model R) h (gaps g)) (after (model R) h (gaps g))
  unfolding call given after
  gaps_end h zero = λ p. ([], p, refl, refl)
  gaps_end h (suc g) =
      let r = gapped (first R closed h) in
      ends_compose h r.held (after (model R) r.held (gaps g)) (listed r.answer) (given (model R) r.held (gaps g))
      (gapped_ends h (first R closed h) (first_ends h)) (gaps_end r.held g)

  gapped_silent : (f : First) → (gapped f).answer ≡ None → (gapped f).held ≡ []
  gapped_silent (event e t) k = let z : ◌≡◌ {A = ℕ} 0 1 = cc in absurd (omega arith)
  gapped_silent (silent t) k = refl

  -- a finished gap leaves a reader that holds nothing
  pub gap_silent : (h : List ℕ) → (call R h gap).answer ≡ None → (call R h gap).held ≡ []
  unfolding call
  gap_silent h e = gapped_silent (first R closed h) e

  quiet_none : (a : Option Event) (t : List ℕ) → Quiet a t → a ≡ None → (p : ℕ) → read_from R open' p t ≡ []
  quiet_none None t k e = k
  quiet_none (Some x) t k e = let z : ◌≡◌ {A = ℕ} 0 1 = cc in absurd (omega arith)

  -- a feeding call with no event leaves bytes that wait
  pub feed_silent : (h s : List ℕ) → (call R h (feed s)).answer ≡ None → (p : ℕ)
      → read_from R open' p (call R h (feed s)).held ≡ []
  unfolding call
  feed_silent h s e = quiet_none (fed R h s).answer (fed R h s).held (fed_sure h s).1 e

  -- ---- lists of calls
  pub after_append : (h : List ℕ) (a b : List Call) → after (model R) h (a ++ b) ≡ after (model R) (after (model R) h a) b
  unfolding after
  after_append h [] b = refl
  after_append h (c ∷ a) b = after_append (call R h c).held a b

  pub given_append : (h : List ℕ) (a b : List Call)
      → given (model R) h (a ++ b) ≡ given (model R) h a ++ given (model R) (after (model R) h a) b
  unfolding after given
  given_append h [] b = refl
  given_append h (c ∷ a) b = rw (given_append (call R h c).held a b)
      (sym (append_assoc (listed (call R h c).answer) (given (model R) (call R h c).held a)
      (given (model R) (after (model R) (call R h c).held a) b)))

  pub took_append : (h : List ℕ) (a b : List Call)
      → took (model R) h (a ++ b) ≡ took (model R) h a ++ took (model R) (after (model R) h a) b
  unfolding after took
  took_append h [] b = refl
  took_append h (c ∷ a) b = rw (took_append (call R h c).held a b)
      (sym (append_assoc (take (call R h c).taken (chunk_of c)) (took (model R) (call R h c).held a)
      (took (model R) (after (model R) (call R h c).held a) b)))

  pub took_gaps : (h : List ℕ) (g : ℕ) → took (model R) h (gaps g) ≡ []
  unfolding took call
  took_gaps h zero = refl
  took_gaps h (suc g) = rw (take-nil, took_gaps (call R h gap).held g)
