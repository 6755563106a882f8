-- The reading of noise, packets and rest comes apart at the seams.
use mathlib.Core.Path.{◌≡◌, refl, sym, ap, subst, ◌∙◌}
use mathlib.Core.List.Memᴰ
use mathlib.Core.List.{List, [], ◌∷◌, ◌++◌, append-nil, append_assoc, Memᴰ}
use mathlib.Core.Logic.{◌⊎◌, inl, inr}
use Prim.Native.Nat.{ℕ, zero, suc, ◌+◌, ◌≤◌, ◌<◌}
use native.Mathlib.Nat.{add-zero}
use native.Mathlib.Decide.{dec_le}
use native.Mathlib.Omega.{arith}
use lib.ListN.{length, take, drop, length-append, length-drop, take-append-drop}
use lib.Seq.{drop-append-le, take-append_seam, drop-append_seam, length-take-le}
use Rattle.reading.specs.Rules.{Verdict, is_packet, is_bad_checksum, is_waiting, is_nothing, Rules, Laws}
use Rattle.reading.specs.Reading.{Event, packet, bad_checksum, EventAt, Mode, open', closed, at_offset, read_fuel, read_from}
use Rattle.reading.specs.Promise.{joined, packets_at, Before, From, AllWellFormed, NoneAcross}
use Rattle.reading.proofs.Offsets.{step}

pub before_append : (n : ℕ) (s t : List EventAt) → Before n s → Before n t → Before n (s ++ t)
before_append n s t h k q e c = one (Memᴰ.append_cases s c)
  where
    one : Memᴰ (q, e) s ⊎ Memᴰ (q, e) t → q < n
    one (inl d) = h q e d
    one (inr d) = k q e d

pub before_le : (n k : ℕ) (s : List EventAt) → n ≤ k → Before n s → Before k s
before_le n k s h b q e c = let z = b q e c in omega arith

cons_from : (p n q : ℕ) (d e : Event) (l : List EventAt) → p ≤ n → (Memᴰ (q, e) l → n ≤ q)
    → (◌≡◌ {A = EventAt} (q, e) (p, d)) ⊎ Memᴰ (q, e) l → p ≤ q
cons_from p n q d e l h k (inl c) = let z : q ≡ p = ap (λ (x : EventAt). x.0) c in omega arith
cons_from p n q d e l h k (inr c) = let z = k c in omega arith

at_from : (m : Mode) (v : Verdict) (p : ℕ) (s : List ℕ) (go : ℕ → List ℕ → List EventAt)
    → ((r : ℕ) (t : List ℕ) → From r (go r t)) → From p (at_offset m v p s go)
at_from m (is_packet n) p s go h q e c = cons_from p (p + n) q (packet (take n s)) e (go (p + n) (drop n s)) (omega arith)
    (h (p + n) (drop n s) q e) (Memᴰ.cases_cons c)
at_from m (is_bad_checksum i) p s go h q e c = cons_from p (p + 1) q (bad_checksum i) e (go (p + 1) (drop 1 s)) (omega arith)
    (h (p + 1) (drop 1 s) q e) (Memᴰ.cases_cons c)
at_from m is_nothing p s go h q e c = let z = h (p + 1) (drop 1 s) q e c in omega arith
at_from closed is_waiting p s go h q e c = let z = h (p + 1) (drop 1 s) q e c in omega arith
at_from open' is_waiting p s go h q e c = absurd (Memᴰ.not-nil c)

module _ (R : Rules) (L : Laws R) where
  from_fuel : (m : Mode) (f p : ℕ) (s : List ℕ) → From p (read_fuel R m f p s)
  unfolding read_fuel
  from_fuel m zero p s = λ q e c. absurd (Memᴰ.not-nil c)
  from_fuel m (suc f) p [] = λ q e c. absurd (Memᴰ.not-nil c)
  from_fuel m (suc f) p (b ∷ s) = at_from m (R.verdict (b ∷ s)) p (b ∷ s) (λ q t. read_fuel R m f q t)
      (λ r t. from_fuel m f r t)

  -- a reading from offset p on has no event before p
  pub from : (m : Mode) (p : ℕ) (s : List ℕ) → From p (read_from R m p s)
  unfolding read_from
  from m p s = from_fuel m (length s) p s

  pub not_empty : (w : List ℕ) → R.WellFormed w → 0 < length w
  not_empty w h = (L.sound w (length w) (rw append-nil at (L.whole w [] h))).0

  pub packets_before : (p : ℕ) (ws : List (List ℕ)) → AllWellFormed R ws → Before (p + length (joined ws)) (packets_at p ws)
  packets_before p [] h q e c = absurd (Memᴰ.not-nil c)
  packets_before p (w ∷ ws) h q e c =
      one (packets_before (p + length w) ws (λ v k. h v (Memᴰ.tail k)) q e) (Memᴰ.cases_cons c)
    where
      one : (Memᴰ (q, e) (packets_at (p + length w) ws) → q < p + length w + length (joined ws))
          → (◌≡◌ {A = EventAt} (q, e) (p, packet w)) ⊎ Memᴰ (q, e) (packets_at (p + length w) ws)
          → q < p + length (w ++ joined ws)
      one k (inl d) =
          let z : q ≡ p = ap (λ (x : EventAt). x.0) d in
          let y = not_empty w (h w (Memᴰ.head refl)) in
          omega (arith, length-append w (joined ws))
      one k (inr d) = let z = k d in omega (arith, length-append w (joined ws))

  read_one : (m : Mode) (p : ℕ) (w x : List ℕ) → R.WellFormed w → 0 < length w
      → read_from R m p (w ++ x) ≡ (p, packet w) ∷ read_from R m (p + length w) x
  read_one m p [] x h k = absurd (omega arith)
  read_one m p (b ∷ w) x h k =
      step R L m p b (w ++ x) (is_packet (length (b ∷ w))) (L.whole (b ∷ w) x h) ∙ rw
      (take-append_seam (b ∷ w) x, drop-append_seam (b ∷ w) x)

  pub read_packets : (m : Mode) (p : ℕ) (ws : List (List ℕ)) (rest : List ℕ) → AllWellFormed R ws
      → read_from R m p (joined ws ++ rest) ≡ packets_at p ws ++ read_from R m (p + length (joined ws)) rest
  read_packets m p [] rest h = rw add-zero
  read_packets m p (w ∷ ws) rest h =
      let g = h w (Memᴰ.head refl) in
      let e : p + length w + length (joined ws) ≡ p + length (w ++ joined ws) = omega (arith, length-append w (joined ws)) in
      rw (append_assoc w (joined ws) rest, read_one m p w (joined ws ++ rest) g (not_empty w g), ← e)
      (ap {B = List EventAt} (λ l. (p, packet w) ∷ l) (read_packets m (p + length w) ws rest (λ v k. h v (Memᴰ.tail k))))

  -- ---- through the noise
  module _ (m : Mode) (ws : List (List ℕ)) (rest : List ℕ) (good : AllWellFormed R ws) where
    abbrev pub beyond : List ℕ
    beyond = joined ws ++ rest

    -- the reading comes to the end of the noise, and goes on with the packets
    abbrev pub Through : ℕ → List ℕ → Type 0
    Through p d =
        (before : List EventAt) ×
        (read_from R m p (d ++ beyond) ≡ before ++
        (packets_at (p + length d) ws ++ read_from R m (p + length d + length (joined ws)) rest)) ×
        Before (p + length d) before

    -- it waits in the noise
    abbrev pub Halted : ℕ → List ℕ → Type 0
    Halted p d =
        (m ≡ open') × ((x : List ℕ) × (y : List ℕ) × (d ++ beyond ≡ x ++ y) × (length x < length d) ×
        (R.verdict y ≡ is_waiting)) ×
        Before (p + length d) (read_from R m p (d ++ beyond))

    abbrev pub Outcome : ℕ → List ℕ → Type 0
    Outcome p d = Through p d ⊎ Halted p d

    -- the noise begins with fr, whose reading gives the events ev
    extend : (p : ℕ) (fr d : List ℕ) (ev : List EventAt) → Before (p + length (fr ++ d)) ev
        → read_from R m p ((fr ++ d) ++ beyond) ≡ ev ++ read_from R m (p + length fr) (d ++ beyond) → Outcome (p + length fr) d
        → Outcome p (fr ++ d)
    extend p fr d ev h e (inl t) =
        let z : p + length fr + length d ≡ p + length (fr ++ d) = omega (arith, length-append fr d) in
        let on = packets_at (p + length fr + length d) ws ++ read_from R m (p + length fr + length d + length (joined ws)) rest in
        inl (
          ev ++ t.0,
          rw (← z) (e ∙ ap (λ (l : List EventAt). ev ++ l) t.1 ∙ sym (append_assoc ev t.0 on)),
          before_append (p + length (fr ++ d)) ev t.0 h
              (before_le (p + length fr + length d) (p + length (fr ++ d)) t.0 (omega arith) t.2),
        )
    extend p fr d ev h e (inr t) =
        let z : p + length fr + length d ≡ p + length (fr ++ d) = omega (arith, length-append fr d) in
        let x = t.1.0 in
        let y = t.1.1 in
        inr (
          t.0,
          (
            fr ++ x,
            y,
            rw (append_assoc fr d beyond, append_assoc fr x y) (ap (λ (l : List ℕ). fr ++ l) t.1.2),
            omega (arith, length-append fr d, length-append fr x, t.1.3),
            t.1.4,
          ),
          rw e
              (before_append (p + length (fr ++ d)) ev (read_from R m (p + length fr) (d ++ beyond)) h
              (before_le (p + length fr + length d) (p + length (fr ++ d)) (read_from R m (p + length fr) (d ++ beyond))
              (omega arith) t.2)),
        )

    none_across : (fr d : List ℕ) → NoneAcross R (fr ++ d) beyond → NoneAcross R d beyond
    none_across fr d h x y z e a b =
        h (fr ++ x) y z (rw (append_assoc fr d beyond, append_assoc fr x (y ++ z)) (ap (λ (l : List ℕ). fr ++ l) e))
        (omega (arith, length-append fr d, length-append fr x)) (omega (arith, length-append fr d, length-append fr x))

    module _ (f p b : ℕ) (d : List ℕ) (h : length (b ∷ d) ≤ suc f) (na : NoneAcross R (b ∷ d) beyond)
        (below : (q : ℕ) (t : List ℕ) → length t ≤ f → NoneAcross R t beyond → Outcome q t) where
      one_before : (e : Event) → Before (p + length (b ∷ d)) ((p, e) ∷ [])
      one_before e q e' c = let z : q ≡ p = ap (λ (x : EventAt). x.0) (Memᴰ.eq_of_singleton c) in omega arith

      inside : (n : ℕ) → R.verdict (b ∷ (d ++ beyond)) ≡ is_packet n → n ≤ length (b ∷ d) → 0 < n → Outcome p (b ∷ d)
      inside n e k pos =
          let fr = take n (b ∷ d) in
          let d' = drop n (b ∷ d) in
          let whole : fr ++ d' ≡ b ∷ d = take-append-drop n (b ∷ d) in
          let len : length fr ≡ n = length-take-le n (b ∷ d) k in
          subst (λ (l : List ℕ). Outcome p l) whole
          (extend p fr d' ((p, packet (take n (b ∷ (d ++ beyond)))) ∷ [])
          (rw whole (one_before (packet (take n (b ∷ (d ++ beyond))))))
          (rw (whole, len) (step R L m p b (d ++ beyond) (is_packet n) e ∙ rw (drop-append-le n (b ∷ d) beyond k)))
          (rw len (below (p + n) d' (simp length-drop (omega arith)) (none_across fr d' (rw whole na)))))

      across : (n : ℕ) → R.verdict (b ∷ (d ++ beyond)) ≡ is_packet n → ¬ (n ≤ length (b ∷ d)) → ⊥
      across n e k =
          let s = b ∷ (d ++ beyond) in
          let g = L.sound s n e in
          na [] (take n s) (drop n s) (sym (take-append-drop n s)) (omega arith) (omega (arith, length-take-le n s g.1))
          g.2

      on_packet : (n : ℕ) → R.verdict (b ∷ (d ++ beyond)) ≡ is_packet n → Dec (n ≤ length (b ∷ d)) → Outcome p (b ∷ d)
      on_packet n e (yes k) = inside n e k (L.sound (b ∷ (d ++ beyond)) n e).0
      on_packet n e (no k) = absurd (across n e k)

      rest_of : Outcome (p + 1) d
      rest_of = below (p + 1) d (omega arith) (none_across (b ∷ []) d na)

      waiting : (k : Mode) → m ≡ k → R.verdict (b ∷ (d ++ beyond)) ≡ is_waiting
          → read_from R m p (b ∷ (d ++ beyond)) ≡ at_offset k is_waiting p (b ∷ (d ++ beyond)) (λ q t. read_from R m q t)
      waiting k i e =
          step R L m p b (d ++ beyond) is_waiting e
          ∙ ap (λ (j : Mode). at_offset j is_waiting p (b ∷ (d ++ beyond)) (λ q t. read_from R m q t)) i

      on_waiting : (k : Mode) → m ≡ k → R.verdict (b ∷ (d ++ beyond)) ≡ is_waiting → Outcome p (b ∷ d)
      on_waiting closed i e = extend p (b ∷ []) d [] (λ q e' c. absurd (Memᴰ.not-nil c)) (waiting closed i e) rest_of
      on_waiting open' i e =
          inr (
            i,
            ([], b ∷ (d ++ beyond), refl, omega arith, e),
            λ q e' c. absurd (Memᴰ.not-nil (rw (waiting open' i e) at c)),
          )

      on_offset : (v : Verdict) → R.verdict (b ∷ (d ++ beyond)) ≡ v → Outcome p (b ∷ d)
      on_offset (is_packet n) e = on_packet n e (dec_le n (length (b ∷ d)))
      on_offset (is_bad_checksum i) e =
          extend p (b ∷ []) d ((p, bad_checksum i) ∷ []) (one_before (bad_checksum i))
          (step R L m p b (d ++ beyond) (is_bad_checksum i) e) rest_of
      on_offset is_nothing e =
          extend p (b ∷ []) d [] (λ q e' c. absurd (Memᴰ.not-nil c)) (step R L m p b (d ++ beyond) is_nothing e) rest_of
      on_offset is_waiting e = on_waiting m refl e

    pub split : (f p : ℕ) (d : List ℕ) → length d ≤ f → NoneAcross R d beyond → Outcome p d
    split zero p [] h na = inl ([], rw add-zero (read_packets m p ws rest good), λ q e c. absurd (Memᴰ.not-nil c))
    split zero p (b ∷ d) h na = absurd (omega arith)
    split (suc f) p [] h na = inl ([], rw add-zero (read_packets m p ws rest good), λ q e c. absurd (Memᴰ.not-nil c))
    split (suc f) p (b ∷ d) h na =
        on_offset f p b d h na (λ q t k n. split f q t k n) (R.verdict (b ∷ (d ++ beyond))) refl
