-- The rules of a shape keep the laws of packet rules.
use mathlib.Core.Path.{◌≡◌, sym, ap, subst, ◌∙◌}
use mathlib.Core.Bool.{true, false}
use mathlib.Core.List.{List, ◌++◌}
use mathlib.Core.Logic.{◌⊎◌, inl, inr}
use Prim.Native.Nat.{ℕ, ◌+◌, ◌≤◌, ◌<◌}
use native.Mathlib.Omega.{arith}
use lib.ListN.{length, take, drop, length-append, take-append-drop}
use lib.Seq.{take-append-le, take-length, length-take-le}
use Rattle.lists.proofs.Bools.{contrary}
use Rattle.reading.specs.Rules.{Laws, Undecided, is_packet, is_waiting}
use Rattle.packet_rules.specs.Shape.{Shape, complete, lacks, verdict, rules}
use Rattle.packet_rules.proofs.Asked.{ShapeLaws}
use Rattle.packet_rules.proofs.Tests.{early_or_late, incomplete, completes, lacks_early, lacks_late, has_front, has_all, has_not, disagrees, waits, judges, by_tests}

module _ (S : Shape) (l : ShapeLaws S) where
  pub disagrees_still : (a b : List ℕ) → S.agrees a ≡ false → S.agrees (a ++ b) ≡ false
  disagrees_still a b e = contrary (S.agrees (a ++ b)) (S.agrees a) (l.agrees_before a b) e

  pub waits_by : (s : List ℕ) → verdict S s ≡ is_waiting → (S.agrees s ≡ true) × (complete S s ≡ false)
  waits_by s e =
      by_tests S s (λ i v. let z : ◌≡◌ {A = ℕ} 0 1 = cc in absurd (omega arith)) (λ i j v. (i, j))
      (λ i j v. absurd (l.never_waits _ (sym v ∙ e)))

  -- what is decided stays
  pub stays : (s x : List ℕ) → ¬ (verdict S s ≡ is_waiting) → verdict S (s ++ x) ≡ verdict S s
  stays s x h =
      by_tests S s (λ i v. disagrees S (s ++ x) (disagrees_still s x i) ∙ sym v) (λ i j v. absurd (h v))
      (λ i j v.
      let f = has_front S s j in
      let k = has_all S s j in
      let n = l.size_same s x f in
      judges S (s ++ x) (l.agrees_same s x f ∙ i)
      (completes S (s ++ x) (simp length-append (omega arith)) (simp length-append (omega arith)))
      ∙ ap (λ (m : ℕ). S.judged (take m (s ++ x))) n ∙ ap S.judged (take-append-le (S.size s) s x k) ∙ sym v)

  -- a packet is found
  found : (w : List ℕ) → S.WellFormed w → verdict S w ≡ is_packet (length w)
  found w f =
      let p = l.passing w f in
      judges S w p.0 (completes S w p.1 (omega (arith, p.2)))
      ∙ ap (λ (n : ℕ). S.judged (take n w)) (sym p.2) ∙ ap S.judged (take-length w) ∙ p.3

  found_first : (w x : List ℕ) → S.WellFormed w → verdict S (w ++ x) ≡ is_packet (length w)
  found_first w x f =
      let v = found w f in
      stays w x (λ e. let z : ◌≡◌ {A = ℕ} 0 1 = cc in absurd (omega arith)) ∙ v

  partial_waits : (a b : List ℕ) → S.WellFormed (a ++ b) → 0 < length b → verdict S a ≡ is_waiting
  partial_waits a b f h =
      let p = l.passing (a ++ b) f in
      let g = l.agrees_before a b p.0 in
      by_tests S a (λ i v. let z : ◌≡◌ {A = ℕ} 0 1 = cc in absurd (omega arith)) (λ i j v. v)
      (λ i j v. absurd (omega (arith, has_all S a j, l.size_same a b (has_front S a j), p.2, length-append a b)))

  -- and is there
  there : (s : List ℕ) → S.agrees s ≡ true → complete S s ≡ true → S.judged (take (S.size s) s) ≡ is_packet (S.size s)
      → (0 < S.size s) × S.WellFormed (take (S.size s) s)
  there s i j v =
      let f = has_front S s j in
      let b = l.bounds s i f in
      let w = take (S.size s) s in
      let n : length w ≡ S.size s = length-take-le (S.size s) s (has_all S s j) in
      let joined : w ++ drop (S.size s) s ≡ s = take-append-drop (S.size s) s in
      let k : S.front ≤ length w = omega (arith, n, l.fronted) in
      let z : S.size s ≡ S.size w = ap S.size (sym joined) ∙ l.size_same w (drop (S.size s) s) k in (
        omega (arith, l.some, l.fronted),
        l.formed w (l.agrees_before w (drop (S.size s) s) (ap S.agrees joined ∙ i)) k (n ∙ z) (v ∙ ap is_packet (sym n)),
      )

  pub sized : (s : List ℕ) (n : ℕ) → complete S s ≡ true → S.judged (take (S.size s) s) ≡ is_packet n → S.size s ≡ n
  sized s n j v = sym (length-take-le (S.size s) s (has_all S s j)) ∙ l.all_of_it _ n v

  sound : (s : List ℕ) (n : ℕ) → verdict S s ≡ is_packet n → (0 < n) × (n ≤ length s) × S.WellFormed (take n s)
  sound s n e =
      by_tests S s (λ i v. let z : ◌≡◌ {A = ℕ} 0 1 = cc in absurd (omega arith))
      (λ i j v. let z : ◌≡◌ {A = ℕ} 0 1 = cc in absurd (omega arith))
      (λ i j v.
      let m = sized s n j (sym v ∙ e) in
      let t = there s i j (sym v ∙ e ∙ ap is_packet (sym m)) in
      (omega (arith, t.0, m), omega (arith, has_all S s j, m), subst (λ (k : ℕ). S.WellFormed (take k s)) m t.1))

  -- what waits
  module _ (s : List ℕ) (e : verdict S s ≡ is_waiting) where
    waits_late : S.front ≤ length s → (length s < S.size s) × (S.size s ≤ S.longest)
    waits_late h = let w = waits_by s e in (has_not S s w.1 h, (l.bounds s w.0 h).1)

    lacking : 0 < lacks S s
    lacking =
        early_or_late S s (λ h. rw (lacks_early S s h) (omega (arith, l.fronted)))
        (λ h. let w = waits_late h in rw (lacks_late S s h) (omega arith))

    room : length s + lacks S s ≤ S.longest
    room =
        early_or_late S s (λ h. rw (lacks_early S s h) (omega (arith, l.fronted, l.ordered)))
        (λ h. let w = waits_late h in rw (lacks_late S s h) (omega arith))

  -- fewer bytes than the shortest packet has decide no event
  pub undecided : (u : List ℕ) → length u < S.shortest → Undecided (verdict S u)
  undecided u h =
      by_tests S u (λ i v. inr v) (λ i j v. inl v)
      (λ i j v. absurd (omega (arith, has_all S u j, (l.bounds u i (has_front S u j)).0)))

  -- what waits and has its front waits until all its bytes are there
  pub waits_on : (s x : List ℕ) → verdict S s ≡ is_waiting → S.front ≤ length s → length x < lacks S s → verdict S (s ++ x) ≡ is_waiting
  waits_on s x e f h =
      let n = rw (lacks_late S s f) at h in
      waits S (s ++ x) (l.agrees_same s x f ∙ (waits_by s e).0)
      (incomplete S (s ++ x) (simp length-append (omega arith)) (simp length-append (omega (arith, l.size_same s x f))))

  patient : (s x : List ℕ) → verdict S s ≡ is_waiting → length x < lacks S s
      → (verdict S (s ++ x) ≡ is_waiting) ⊎ ((t u : List ℕ) → s ++ x ≡ t ++ u → Undecided (verdict S u))
  patient s x e h =
      early_or_late S s
      (λ f.
      let n = rw (lacks_early S s f) at h in
      inr (λ t u j. undecided u (omega (arith, ap length j, length-append s x, length-append t u))))
      (λ f. inl (waits_on s x e f h))

  pub laws : Laws (rules S)
  laws =
      record {
        stays = stays;
        sound = sound;
        whole = found_first;
        partial_waits = partial_waits;
        lacking = lacking;
        room = room;
        patient = patient;
      }
