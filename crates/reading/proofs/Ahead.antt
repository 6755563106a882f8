-- Looking ahead in a chunk, where nothing is held: each offset is judged once, by all the bytes that follow it, and only then
-- is it said how many of them are taken.
use mathlib.Core.Path.{◌≡◌, refl, sym, ap, ◌∙◌}
use mathlib.Core.List.{List, [], ◌∷◌}
use mathlib.Core.Logic.{◌⊎◌, inl, inr}
use Prim.Native.Nat.{ℕ, zero, suc, ◌+◌, ◌-◌, ◌≤◌, ◌<◌}
use native.Mathlib.Omega.{arith}
use native.Mathlib.Decide.{dec_lt}
use lib.ListN.{length, take, drop, length-take, length-drop, take-append-drop, drop_of_length-le}
use lib.Seq.{take_all, drop-drop}
use Rattle.reading.specs.Rules.{Verdict, is_packet, is_bad_checksum, is_waiting, is_nothing, Rules, Laws}
use Rattle.reading.specs.Reading.{Mode, open'}
use Rattle.reading.specs.Calls.{silent, first}
use Rattle.reading.specs.Progress.{Reached, Settles}
use Rattle.reading.proofs.Progress.{first_at_lem, first_none, first_waits, reached_silent}

-- the part of s from q up to e, taken the other way round
pub part : (q e : ℕ) (s : List ℕ) → drop q (take e s) ≡ take (e - q) (drop q s)
part zero e s = let z : e ≡ e - 0 = omega arith in ap (λ (n : ℕ). take n s) z
part (suc q) e [] =
    ap (λ (l : List ℕ). drop (suc q) l) (take_all e [] (omega arith)) ∙ sym (take_all (e - suc q) [] (omega arith))
part (suc q) zero (b ∷ s) = let z : 0 ≡ 0 - suc q = omega arith in ap (λ (n : ℕ). take n (drop q s)) z
part (suc q) (suc e) (b ∷ s) =
    let z : e - q ≡ suc e - suc q = omega arith in
    part q e s ∙ ap (λ (n : ℕ). take n (drop q s)) z

module _ (R : Rules) where
  -- the offsets before p say nothing
  abbrev pub Passed : List ℕ → ℕ → Type 0
  Passed s p = (q : ℕ) → q < p → R.verdict (drop q s) ≡ is_nothing

  -- so they are passed, whether more bytes may follow or not
  pub first_past : (m : Mode) (u : List ℕ) (p : ℕ) → Passed u p → p ≤ length u → first R m u ≡ first R m (drop p u)
  first_past m u zero h l = refl
  first_past m [] (suc p) h l = absurd (omega arith)
  first_past m (b ∷ u) (suc p) h l =
      first_at_lem R m (b ∷ u) is_nothing (omega arith) (h 0 (omega arith))
      ∙ first_past m u p (λ q i. h (suc q) (omega arith)) (omega arith)

  -- no packet begins: that is decided, and no bytes of a packet were judged for it
  abbrev pub NoneBegins : (List ℕ → ℕ) → List ℕ → Type 0
  NoneBegins settled s = (R.verdict s ≡ is_nothing) × (settled s ≡ 0)

module _ (R : Rules) (L : Laws R) where
  -- where the offsets before p say nothing and p waits, no event is decided by the first k bytes
  pub silent_before : (s : List ℕ) (p k : ℕ) → Passed R s p → (p < k → R.verdict (take (k - p) (drop p s)) ≡ is_waiting)
      → (t : List ℕ) × (first R open' (take k s) ≡ silent t)
  silent_before s zero zero h w = ([], first_none R open')
  silent_before s zero (suc k) h w =
      let z : suc k - 0 ≡ suc k = omega arith in
      (take (suc k) s, first_waits R (take (suc k) s) (rw z at (w (omega arith))))
  silent_before [] (suc p) k h w = ([], ap (λ (u : List ℕ). first R open' u) (take_all k [] (omega arith)) ∙ first_none R open')
  silent_before (b ∷ s) (suc p) zero h w = ([], first_none R open')
  silent_before (b ∷ s) (suc p) (suc k) h w =
      by (R.verdict (b ∷ take k s)) refl
      (silent_before s p k (λ q i. h (suc q) (omega arith))
      (λ i. let z : suc k - suc p ≡ k - p = omega arith in rw z at (w (omega arith))))
    where
      -- what would be decided would stay
      decided : (v : Verdict) → R.verdict (b ∷ take k s) ≡ v → (v ≡ is_waiting → ⊥) → v ≡ is_nothing
      decided v e n =
          sym (L.stays (b ∷ take k s) (drop k s) (λ i. n (sym e ∙ i)) ∙ e)
          ∙ ap (λ (u : List ℕ). R.verdict (b ∷ u)) (take-append-drop k s) ∙ h 0 (omega arith)

      by : (v : Verdict) → R.verdict (b ∷ take k s) ≡ v → (t : List ℕ) × (first R open' (take k s) ≡ silent t)
          → (t : List ℕ) × (first R open' (b ∷ take k s) ≡ silent t)
      by is_waiting e r = (b ∷ take k s, first_waits R (b ∷ take k s) e)
      by is_nothing e r = (r.0, first_at_lem R open' (b ∷ take k s) is_nothing (omega arith) e ∙ r.1)
      by (is_packet n) e r =
          let d = decided (is_packet n) e (λ i. let z : ◌≡◌ {A = ℕ} 0 1 = cc in omega arith) in
          let z : ◌≡◌ {A = ℕ} 0 1 = cc in
          absurd (omega arith)
      by (is_bad_checksum id) e r =
          let d = decided (is_bad_checksum id) e (λ i. let z : ◌≡◌ {A = ℕ} 0 1 = cc in omega arith) in
          let z : ◌≡◌ {A = ℕ} 0 1 = cc in
          absurd (omega arith)

-- The offsets of s before p say nothing, e bytes settle that, and with fewer no event is decided. An offset where no packet begins
-- is settled by none, also behind e.
pub record Ahead (R : Rules) (settled : List ℕ → ℕ) (s : List ℕ) (p e : ℕ) : Type 0 where
  pub passed : Passed R s p
  pub behind : (q : ℕ) → q < p → settled (drop q s) ≤ e - q
  pub within : e ≤ length s
  pub silent_so_far : (k : ℕ) → k < e → (t : List ℕ) × (first R open' (take k s) ≡ silent t)

pub ahead_start : (R : Rules) (settled : List ℕ → ℕ) (s : List ℕ) → Ahead R settled s 0 0
ahead_start R settled s =
    record {
      passed = λ q l. absurd (omega arith);
      behind = λ q l. absurd (omega arith);
      within = omega arith;
      silent_so_far = λ k l. absurd (omega arith);
    }

module _ (R : Rules) (L : Laws R) (settled : List ℕ → ℕ) (S : Settles R settled) (s : List ℕ) (p e : ℕ)
    (a : Ahead R settled s p e) where
  -- the bytes that settle p too: e, or those up to its own
  module _ (e' : ℕ) (l : e ≤ e') (m : p + settled (drop p s) ≤ e') (is : (e' ≡ e) ⊎ (e' ≡ p + settled (drop p s)))
      (h : p < length s) where
    within' : e' ≤ length s
    within' = by is
      where
        by : (e' ≡ e) ⊎ (e' ≡ p + settled (drop p s)) → e' ≤ length s
        by (inl i) = omega (arith, a.within)
        by (inr i) = omega (arith, S.there (drop p s), length-drop p s)

    silent_to : (k : ℕ) → k < e' → (t : List ℕ) × (first R open' (take k s) ≡ silent t)
    silent_to k j = by is
      where
        by : (e' ≡ e) ⊎ (e' ≡ p + settled (drop p s)) → (t : List ℕ) × (first R open' (take k s) ≡ silent t)
        by (inl i) = a.silent_so_far k (omega arith)
        by (inr i) = silent_before R L s p k a.passed (λ b. S.sooner (drop p s) (k - p) (omega arith))

    -- p says nothing either
    pub ahead_next : R.verdict (drop p s) ≡ is_nothing → Ahead R settled s (p + 1) e'
    ahead_next v =
        record {
          passed = λ q j. by q (dec_lt q p) j;
          behind = λ q j. so_far q (dec_lt q p) j;
          within = within';
          silent_so_far = silent_to;
        }
      where
        by : (q : ℕ) → Dec (q < p) → q < p + 1 → R.verdict (drop q s) ≡ is_nothing
        by q (yes i) j = a.passed q i
        by q (no i) j = let z : q ≡ p = omega arith in rw z v

        so_far : (q : ℕ) → Dec (q < p) → q < p + 1 → settled (drop q s) ≤ e' - q
        so_far q (yes i) j = omega (arith, a.behind q i)
        so_far q (no i) j = let z : q ≡ p = omega arith in rw z (omega arith)

    -- p decides an event
    module _ (d : R.verdict (drop p s) ≡ is_waiting → ⊥) (n : R.lacks [] ≤ settled (drop p s)) where
      pub ahead_reached : Reached R [] s (take e' s) e'
      ahead_reached = reached_silent R [] s e' within' silent_to

      -- and does so with the bytes that are taken
      pub ahead_verdict : R.verdict (drop p (take e' s)) ≡ R.verdict (drop p s)
      ahead_verdict = ap R.verdict (part p e' s) ∙ S.enough (drop p s) (e' - p) d (omega arith) (omega arith)

      pub ahead_first : first R open' (take e' s) ≡ first R open' (drop p (take e' s))
      ahead_first =
          first_past R open' (take e' s) p
          (λ q j.
          ap R.verdict (part q e' s)
          ∙ S.enough (drop q s) (e' - q)
          (λ w. let v = a.passed q j in let z : ◌≡◌ {A = ℕ} 0 1 = cc in omega arith)
          (omega (arith, a.behind q j)) (omega arith)
          ∙ a.passed q j)
          (simp length-take (omega (arith, within')))

  -- no packet begins at the next k offsets
  module _ (k : ℕ) (n : (q : ℕ) → q < k → NoneBegins R settled (drop q (drop p s))) where
    begins_none : (q : ℕ) → ¬ (q < p) → q < p + k → NoneBegins R settled (drop q s)
    begins_none q i j =
        let z : p + (q - p) ≡ q = omega arith in
        rw (← z) (rw (← drop-drop (q - p) p s) (n (q - p) (omega arith)))

    pub ahead_past : Ahead R settled s (p + k) e
    ahead_past =
        record {
          passed = λ q j. by q (dec_lt q p) j;
          behind = λ q j. so_far q (dec_lt q p) j;
          within = a.within;
          silent_so_far = a.silent_so_far;
        }
      where
        by : (q : ℕ) → Dec (q < p) → q < p + k → R.verdict (drop q s) ≡ is_nothing
        by q (yes i) j = a.passed q i
        by q (no i) j = (begins_none q i j).0

        so_far : (q : ℕ) → Dec (q < p) → q < p + k → settled (drop q s) ≤ e - q
        so_far q (yes i) j = a.behind q i
        so_far q (no i) j = omega (arith, (begins_none q i j).1)

  -- p waits for bytes past the end, or is the end: the whole of s is taken
  module _ (w : (R.verdict (drop p s) ≡ is_waiting) ⊎ (length s ≤ p)) (h : p ≤ length s) where
    pub ahead_whole : Reached R [] s s (length s)
    ahead_whole =
        rw (take_all (length s) s (omega arith))
        at (reached_silent R [] s (length s) (omega arith) (λ k j. silent_before R L s p k a.passed (λ i. still k j i w)))
      where
        still : (k : ℕ) → k < length s → p < k → (R.verdict (drop p s) ≡ is_waiting) ⊎ (length s ≤ p)
            → R.verdict (take (k - p) (drop p s)) ≡ is_waiting
        still k j i (inr z) = absurd (omega arith)
        still k j i (inl z) = by (R.verdict (take (k - p) (drop p s))) refl
          where
            stayed : (v : Verdict) → R.verdict (take (k - p) (drop p s)) ≡ v → (v ≡ is_waiting → ⊥) → v ≡ is_waiting
            stayed v e n =
                sym (L.stays (take (k - p) (drop p s)) (drop (k - p) (drop p s)) (λ i. n (sym e ∙ i)) ∙ e)
                ∙ ap R.verdict (take-append-drop (k - p) (drop p s)) ∙ z

            by : (v : Verdict) → R.verdict (take (k - p) (drop p s)) ≡ v → R.verdict (take (k - p) (drop p s)) ≡ is_waiting
            by is_waiting e = e
            by is_nothing e = e ∙ stayed is_nothing e (λ i. let z : ◌≡◌ {A = ℕ} 0 1 = cc in omega arith)
            by (is_packet n) e = e ∙ stayed (is_packet n) e (λ i. let z : ◌≡◌ {A = ℕ} 0 1 = cc in omega arith)
            by (is_bad_checksum id) e = e ∙ stayed (is_bad_checksum id) e (λ i. let z : ◌≡◌ {A = ℕ} 0 1 = cc in omega arith)

    pub ahead_silent : first R open' s ≡ silent (drop p s)
    ahead_silent = first_past R open' s p a.passed h ∙ by w
      where
        by : (R.verdict (drop p s) ≡ is_waiting) ⊎ (length s ≤ p) → first R open' (drop p s) ≡ silent (drop p s)
        by (inl z) = first_waits R (drop p s) z
        by (inr z) = let y : drop p s ≡ [] = drop_of_length-le s z in rw y (first_none R open')
