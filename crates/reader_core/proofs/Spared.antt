-- What a call does not write: the bytes past those that were held and those taken.
use Rattle.std.specs.Prelude.{None, Option, Some}
use mathlib.Core.Path.{◌≡◌, refl, sym, ap, subst, ◌∙◌}
use mathlib.Core.List.{List, [], ◌∷◌, ◌++◌}
use Prim.Native.Nat.{ℕ, ◌+◌, ◌≤◌, ◌<◌}
use native.Mathlib.Omega.{arith}
use lib.ListN.{length, take, drop, length-append, length-take, drop_of_length-le}
use Rattle.reading.specs.Rules.{Verdict, is_packet, is_bad_checksum, is_waiting, is_nothing, Rules, Laws}
use Rattle.reading.specs.Reading.{Event, open', closed}
use Rattle.reading.specs.Calls.{First, event, silent, first_at, first, CallResult, fed, gapped, Call, feed, gap, call}
use Rattle.reading.specs.Progress.{Reached}
use Rattle.reading.proofs.Held.{shrinks}
use Rattle.reading.proofs.Fewest.{fed_fewest}
use Rattle.packet_protocols.specs.declared.Protocol.{Protocol}
use Rattle.buffers.proofs.Parts.{stays_more}
use Rattle.reader_core.specs.declared.Step.{Step}
use Rattle.reader_core.specs.Delivered.{size_in, Delivered, Stayed, Spared}
use Rattle.reader_core.proofs.Rounds.{rest, rest_is}

-- ---- no more is held than was held and taken

module _ (R : Rules) (L : Laws R) where
  silent_at : (b : ℕ) (s t : List ℕ) (f : First) (v : Verdict) → (f ≡ silent t → length t ≤ length s)
      → first_at open' v (b ∷ s) f ≡ silent t → length t ≤ length (b ∷ s)
  silent_at b s t f (is_packet n) h k = let z : ◌≡◌ {A = ℕ} 0 1 = cc in absurd (omega arith)
  silent_at b s t f (is_bad_checksum id) h k = let z : ◌≡◌ {A = ℕ} 0 1 = cc in absurd (omega arith)
  silent_at b s t f is_nothing h k = let z = h k in omega arith
  silent_at b s t f is_waiting h k = let z : b ∷ s ≡ t = cc in rw (← z) (omega arith)

  silent_shorter : (s t : List ℕ) → first R open' s ≡ silent t → length t ≤ length s
  unfolding first
  silent_shorter [] t k = let z : [] ≡ t = cc in rw (← z) (omega arith)
  silent_shorter (b ∷ s) t k = silent_at b s t (first R open' s) (R.verdict (b ∷ s)) (silent_shorter s t) k

  fed_shorter : (h s : List ℕ) → length (fed R h s).held ≤ length h + (fed R h s).taken
  fed_shorter h s = by (fed R h s).answer refl
    where
      by : (a : Option Event) → (fed R h s).answer ≡ a → length (fed R h s).held ≤ length h + (fed R h s).taken
      by None e =
          let u = (fed_fewest R h s).undecided e in
          omega (arith, u.0, silent_shorter (h ++ s) (fed R h s).held u.1, length-append h s)
      by (Some x) e =
          let t = take (fed R h s).taken s in
          let l = shrinks R L open' (h ++ t) x (fed R h s).held ((fed_fewest R h s).decided x e) in
          omega (arith, l, length-append h t, length-take (fed R h s).taken s)

  gapped_shorter : (h : List ℕ) (f : First) → first R closed h ≡ f → length (gapped f).held ≤ length h + (gapped f).taken
  gapped_shorter h (event e t) i = omega (arith, shrinks R L closed h e t i)
  gapped_shorter h (silent t) i = omega arith

  pub call_shorter : (h : List ℕ) (c : Call) → length (call R h c).held ≤ length h + (call R h c).taken
  unfolding call
  call_shorter h (feed s) = fed_shorter h s
  call_shorter h gap = gapped_shorter h (first R closed h) refl

-- ---- the parts of a call

module _ (R : Rules) (h₀ c₀ h : List ℕ) (taken : ℕ) (a : Reached R h₀ c₀ h taken) where
  whole : (fed R h₀ c₀).taken ≡ taken + (fed R h (drop taken c₀)).taken
  whole = ap (λ (r : CallResult). r.taken) a.same

  pub reached_taken : taken ≤ (fed R h₀ c₀).taken
  reached_taken = omega (arith, whole)

  -- the held bytes have taken what they wait for
  pub filled_stays : (held' held held₀ : List ℕ) (count n : ℕ) → n ≤ count + taken
      → drop (n + (fed R h (rest c₀ taken)).taken) held' ≡ drop (n + (fed R h (rest c₀ taken)).taken) held
      → drop (count + (fed R h₀ c₀).taken) held ≡ drop (count + (fed R h₀ c₀).taken) held₀
      → drop (count + (fed R h₀ c₀).taken) held' ≡ drop (count + (fed R h₀ c₀).taken) held₀
  filled_stays held' held held₀ count n l e d =
      let z : (fed R h (rest c₀ taken)).taken ≡ (fed R h (drop taken c₀)).taken = ap (λ (s : List ℕ). (fed R h s).taken) (rest_is c₀ taken) in
      stays_more (n + (fed R h (rest c₀ taken)).taken) (count + (fed R h₀ c₀).taken) held' held (omega (arith, whole, z)) e ∙ d

-- a buffer of which all may have been written
pub none_stays : (most k : ℕ) (held held₀ : List ℕ) → length held ≡ most → length held₀ ≡ most → most ≤ k → drop k held ≡ drop k held₀
none_stays most k held held₀ i j l =
    drop_of_length-le held {i = k} (omega arith) ∙ sym (drop_of_length-le held₀ {i = k} (omega arith))

-- ---- the whole call

pub spared_full : (most count : ℕ) (step : Step) (held₀ bytes₀ held bytes : List ℕ) → length held ≡ most → length held₀ ≡ most
    → most < count + step.taken → Spared most count step held₀ bytes₀ held bytes
spared_full most count step held₀ bytes₀ held bytes i j l =
    record { held_stays = none_stays most (count + step.taken) held held₀ i j (omega arith); bytes_stay = λ k. absurd (omega arith) }

pub spared : (p : Protocol) (r : CallResult) (most count : ℕ) (step : Step) (held₀ bytes₀ held' bytes' held bytes : List ℕ)
    → length r.held ≤ count + r.taken → Delivered p r step held bytes → Stayed step held' bytes' held bytes
    → drop (count + r.taken) held' ≡ drop (count + r.taken) held₀ → (count + r.taken ≤ most → bytes' ≡ bytes₀)
    → Spared most count step held₀ bytes₀ held bytes
spared p r most count step held₀ bytes₀ held' bytes' held bytes l d s e f =
    let t = d.taken_is in
    let n = d.count_is in
    record {
      held_stays =
          stays_more step.held (count + step.taken) held held' (omega arith) s.held_stays
          ∙ subst (λ (k : ℕ). drop (count + k) held' ≡ drop (count + k) held₀) (sym t) e;
      bytes_stay = λ k. s.bytes_stay ∙ ap (λ (b : List ℕ). drop (size_in step.event) b) (f (omega arith));
    }
