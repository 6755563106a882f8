-- A feeding call goes by the rule of the fewest bytes, and the rule leaves no choice.
use Rattle.std.specs.Prelude.{None, Option, Some}
use mathlib.Core.Path.{◌≡◌, refl, sym, ap, subst, ◌∙◌}
use mathlib.Core.List.{List, [], ◌∷◌, ◌++◌, append-nil, append_assoc}
use Prim.Native.Nat.{ℕ, zero, suc, ◌<◌}
use native.Mathlib.Omega.{arith}
use lib.ListN.{take}
use lib.Seq.{take-length}
use Rattle.reading.specs.Rules.{Rules}
use Rattle.reading.specs.Reading.{Event, open'}
use Rattle.reading.specs.Calls.{First, event, silent, first, CallResult, fed, fed_all, fed_on, Fewest, FewestRule}

pub same_result : (r r' : CallResult) → r.taken ≡ r'.taken → r.answer ≡ r'.answer → r.held ≡ r'.held → r ≡ r'
same_result r r' a b c = λ i. record { taken = a i; answer = b i; held = c i }

module _ (R : Rules) where
  at_once : (h s : List ℕ) (x : Event) (t : List ℕ) → first R open' h ≡ event x t
      → Fewest R h s (record { taken = 0; answer = Some x; held = t })
  at_once h s x t e =
      record {
        within = omega arith;
        none_sooner = λ k l. absurd (omega arith);
        decided = λ y i. rw append-nil (let z : x ≡ y = cc in rw (← z) e);
        undecided = λ i. let z : ◌≡◌ {A = ℕ} 0 1 = cc in absurd (omega arith);
      }

  fewest_all : (h : List ℕ) (f : First) → first R open' h ≡ f → Fewest R h [] (fed_all f)
  fewest_all h (event x t) e = at_once h [] x t e
  fewest_all h (silent t) e =
      record {
        within = omega arith;
        none_sooner = λ k l. absurd (omega arith);
        decided = λ y i. let z : ◌≡◌ {A = ℕ} 0 1 = cc in absurd (omega arith);
        undecided = λ i. (refl, rw append-nil e);
      }

  fewest_on : (h : List ℕ) (b : ℕ) (s : List ℕ) (f : First) (r : CallResult) → first R open' h ≡ f → Fewest R (h ++ (b ∷ [])) s r
      → Fewest R h (b ∷ s) (fed_on f r)
  fewest_on h b s (event x t) r e w = at_once h (b ∷ s) x t e
  fewest_on h b s (silent t) r e w =
      record {
        within = omega (arith, w.within);
        none_sooner = sooner;
        decided = λ y i. rw append_assoc at (w.decided y i);
        undecided = λ i. (ap suc (w.undecided i).0, rw append_assoc at (w.undecided i).1);
      }
    where
      sooner : (k : ℕ) → k < suc r.taken → (u : List ℕ) × (first R open' (h ++ take k (b ∷ s)) ≡ silent u)
      sooner zero l = (t, rw append-nil e)
      sooner (suc k) l = let v = w.none_sooner k (omega arith) in (v.0, rw append_assoc at v.1)

  pub fed_fewest : (h s : List ℕ) → Fewest R h s (fed R h s)
  unfolding fed
  fed_fewest h [] = fewest_all h (first R open' h) refl
  fed_fewest h (b ∷ s) = fewest_on h b s (first R open' h) (fed R (h ++ (b ∷ [])) s) refl (fed_fewest (h ++ (b ∷ [])) s)

  -- whatever meets the rule is what `fed` says
  module _ (h s : List ℕ) where
    not_sooner : (r r' : CallResult) → Fewest R h s r → Fewest R h s r' → (a : Option Event) → r.answer ≡ a → r.taken < r'.taken
        → ⊥
    not_sooner r r' w w' None i l = let k = w.undecided i in omega (arith, k.0, w'.within)
    not_sooner r r' w w' (Some e) i l =
        let k = w.decided e i in
        let v = w'.none_sooner r.taken l in
        let j = v.1 in
        let z : ◌≡◌ {A = ℕ} 0 1 = cc in
        omega arith

    -- an event with as many bytes as the whole chunk, and none with the whole chunk
    not_both : (r r' : CallResult) (e : Event) → Fewest R h s r → Fewest R h s r' → r.taken ≡ r'.taken → r.answer ≡ None
        → r'.answer ≡ Some e → ⊥
    not_both r r' e w w' t i j =
        let k = w.undecided i in
        let k₁ = k.1 in
        let all : take r'.taken s ≡ s = ap (λ (n : ℕ). take n s) (sym t ∙ k.0) ∙ take-length s in
        let k' = w'.decided e j in
        let k'' : first R open' (h ++ s) ≡ event e r'.held = subst
        (λ (x : List ℕ). first R open' (h ++ x) ≡ event e r'.held) all k' in
        let z : ◌≡◌ {A = ℕ} 0 1 = cc in
        omega arith

    same_rest : (r r' : CallResult) → Fewest R h s r → Fewest R h s r' → r.taken ≡ r'.taken → (a a' : Option Event) → r.answer ≡ a
        → r'.answer ≡ a' → r ≡ r'
    same_rest r r' w w' t None None i i' = same_result r r' t (i ∙ sym i')
        (let k = (w.undecided i).1 in let k' = (w'.undecided i').1 in cc)
    same_rest r r' w w' t None (Some e) i i' = absurd (not_both r r' e w w' t i i')
    same_rest r r' w w' t (Some e) None i i' = absurd (not_both r' r e w' w (sym t) i' i)
    same_rest r r' w w' t (Some e) (Some e') i i' =
        let k = w.decided e i in
        let k' : first R open' (h ++ take r.taken s) ≡ event e' r'.held =
        subst (λ (n : ℕ). first R open' (h ++ take n s) ≡ event e' r'.held) (sym t) (w'.decided e' i') in
        same_result r r' t (cc) (cc)

    pub fewest_unique : (r r' : CallResult) → Fewest R h s r → Fewest R h s r' → r ≡ r'
    fewest_unique r r' w w' =
        let a : ¬ (r.taken < r'.taken) = not_sooner r r' w w' r.answer refl in
        let b : ¬ (r'.taken < r.taken) = not_sooner r' r w' w r'.answer refl in
        same_rest r r' w w' (omega arith) r.answer r'.answer refl refl

  pub fewest_fed : (h s : List ℕ) (r : CallResult) → Fewest R h s r → r ≡ fed R h s
  fewest_fed h s r w = fewest_unique h s r (fed R h s) w (fed_fewest h s)

  pub fewest_rule : FewestRule R
  fewest_rule h s = (fed_fewest h s, fewest_fed h s)
