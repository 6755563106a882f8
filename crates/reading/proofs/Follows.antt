-- Demand 3 of each reader that keeps to the rules.
use mathlib.Core.Path.{◌≡◌, refl, sym, ap, ap₂, ◌∙◌}
use mathlib.Core.List.{List, [], ◌∷◌, ◌++◌}
use mathlib.Core.Logic.{inl, inr}
use Prim.Native.Nat.{ℕ}
use lib.ListN.{take}
use Rattle.reading.specs.Rules.{Rules, Laws}
use Rattle.reading.specs.Reading.{Event}
use Rattle.reading.specs.Calls.{Call, feed, gap, call}
use Rattle.reading.specs.Lists.{AnyReader, model, chunk_of, feeds, listed, after, took, given, Follows}
use Rattle.reading.specs.Promise.{EndsSilent, AtStart, since, Finished, Promised, Demand3}
use Rattle.reading.proofs.Demand.{demand_3}

module _ (R : Rules) (M : AnyReader) (Legal : M.State → Type 0) (held : M.State → List ℕ) (F : Follows R M Legal held) where
  pub follows_after : (x : M.State) (h : List ℕ) (cs : List Call) → Legal x → held x ≡ h
      → Legal (after M x cs) × (held (after M x cs) ≡ after (model R) h cs)
  unfolding after
  follows_after x h [] l e = (l, e)
  follows_after x h (c ∷ cs) l e =
      let n = F.same_next x c l in
      follows_after (M.next x c) (call R h c).held cs n.0 (n.1 ∙ ap (λ (k : List ℕ). (call R k c).held) e)

  pub follows_took : (x : M.State) (h : List ℕ) (cs : List Call) → Legal x → held x ≡ h
      → took M x cs ≡ took (model R) h cs
  unfolding took
  follows_took x h [] l e = refl
  follows_took x h (c ∷ cs) l e =
      let n = F.same_next x c l in
      ap₂ (λ (a b : List ℕ). a ++ b)
      (ap (λ (k : ℕ). take k (chunk_of c)) (F.same_taken x c l ∙ ap (λ (k : List ℕ). (call R k c).taken) e))
      (follows_took (M.next x c) (call R h c).held cs n.0 (n.1 ∙ ap (λ (k : List ℕ). (call R k c).held) e))

  pub follows_given : (x : M.State) (h : List ℕ) (cs : List Call) → Legal x → held x ≡ h
      → given M x cs ≡ given (model R) h cs
  unfolding given
  follows_given x h [] l e = refl
  follows_given x h (c ∷ cs) l e =
      let n = F.same_next x c l in
      ap₂ (λ (a b : List Event). a ++ b) (ap listed (F.same_answer_lem x c l ∙ ap (λ (k : List ℕ). (call R k c).answer) e))
      (follows_given (M.next x c) (call R h c).held cs n.0 (n.1 ∙ ap (λ (k : List ℕ). (call R k c).held) e))

  -- what a call answers after other calls
  pub follows_answer : (x : M.State) (h : List ℕ) (cs : List Call) (c : Call) → Legal x → held x ≡ h
      → M.answer (after M x cs) c ≡ (call R (after (model R) h cs) c).answer
  follows_answer x h cs c l e =
      let n = follows_after x h cs l e in
      F.same_answer_lem (after M x cs) c n.0 ∙ ap (λ (k : List ℕ). (call R k c).answer) n.1

  ends_silent : (x : M.State) (h : List ℕ) (cs : List Call) (c : Call) → Legal x → held x ≡ h → EndsSilent M x cs c
      → EndsSilent (model R) h cs c
  ends_silent x h cs c l e s = (s.0, s.1, sym (follows_answer x h s.0 c l e) ∙ s.2)

  pub at_start : (x : M.State) (h : List ℕ) (cs : List Call) → Legal x → held x ≡ h → AtStart M x cs → AtStart (model R) h cs
  at_start x h cs l e (inl s) = inl s
  at_start x h cs l e (inr s) = inr (ends_silent x h cs gap l e s)

  module _ (x : M.State) (h : List ℕ) (l : Legal x) (e : held x ≡ h) (chunks : List (List ℕ)) (g : ℕ) where
    finished : Finished M x chunks g → Finished (model R) h chunks g
    finished f = (f.0, f.1, sym (follows_answer x h (since chunks f.0) gap l e) ∙ f.2)

    promised : (noise : List ℕ) (packets : List (List ℕ)) (rest : List ℕ) → Promised R (model R) h chunks g noise packets rest
        → Promised R M x chunks g noise packets rest
    promised noise packets rest p =
        let t = follows_took x h (since chunks g) l e in
        let v = follows_given x h (since chunks g) l e in
        record {
          counted = t ∙ p.counted;
          firsts = rw (t, v) p.firsts;
          all = λ f. rw (t, v) (p.all (finished f));
          reads = rw t p.reads;
          only_packets = rw (t, v) p.only_packets;
          none_arriving = rw (t, v) p.none_arriving;
          out_by_gap = λ f. rw (t, v) (p.out_by_gap (finished f));
          out_by_feed = λ z chunk s. rw (t, v) (p.out_by_feed z chunk (ends_silent x h (feeds chunks) (feed chunk) l e s));
        }

  pub follows_demand : Laws R → Demand3 R M
  follows_demand L x fresh earlier start chunks g noise packets rest is good across =
      let f = F.fresh x fresh in
      let y = after M x earlier in
      let h = after (model R) [] earlier in
      let n = follows_after x [] earlier f.0 f.1 in
      promised y h n.0 n.1 chunks g noise packets rest
      (demand_3 R L [] refl earlier (at_start x [] earlier f.0 f.1 start) chunks g noise packets rest
      (sym (follows_took y h (since chunks g) n.0 n.1) ∙ is) good across)
