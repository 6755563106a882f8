-- The bytes before the first offset at which a packet may begin: round by round, and that none begins there.
use mathlib.Core.Path.{◌≡◌, refl, sym, ap, ◌∙◌}
use mathlib.Core.Bool.{Bool, true, false, cond}
use mathlib.Core.List.{List, [], ◌∷◌}
use Prim.Native.Nat.{ℕ, zero, suc, ◌+◌, ◌-◌, ◌≤◌, ◌<◌}
use native.Mathlib.Omega.{arith}
use lib.ListN.{length, take, drop, length-drop, drop_of_length-le}
use lib.Seq.{drop-cons, take_all}
use Rattle.lists.proofs.Bools.{contrary}
use Rattle.reading.proofs.Ahead.{NoneBegins}
use Rattle.packet_rules.specs.Shape.{Shape, rules}
use Rattle.packet_rules.specs.Answers.{settled_by}
use Rattle.packet_rules.specs.Starts.{before_start}
use Rattle.packet_rules.proofs.Peeks.{none_begins}

module _ (may : List ℕ → Bool) where
  module _ (s : List ℕ) (i : ℕ) where
    pub start_here : i < length s → may (drop i s) ≡ true → before_start may (drop i s) ≡ 0
    unfolding before_start
    start_here h e = let z = drop-cons s i 0 h in rw (z, ap may (sym z) ∙ e) refl

    pub start_later : i < length s → may (drop i s) ≡ false
        → i + before_start may (drop i s) ≡ (i + 1) + before_start may (drop (i + 1) s)
    unfolding before_start
    start_later h n =
        let d = drop-cons s i 0 h in
        let e : before_start may (drop i s) ≡ suc (before_start may (drop (suc i) s)) = rw (d, ap may (sym d) ∙ n) refl in
        let z : suc i ≡ i + 1 = omega arith in
        omega (arith, e, ap (λ (k : ℕ). before_start may (drop k s)) z)

    pub start_past : length s ≤ i → before_start may (drop i s) ≡ 0
    unfolding before_start
    start_past h = ap (before_start may) (drop_of_length-le s h)

    -- for code that lends the bytes from the offset on
    pub may_at : (t t' : Bool) → t ≡ may (take (length s - i) (drop i s)) → t ≡ t' → may (drop i s) ≡ t'
    may_at t t' e k = ap may (sym (take_all (length s - i) (drop i s) (simp length-drop (omega arith)))) ∙ sym e ∙ k

  pub before_fits : (s : List ℕ) → before_start may s ≤ length s
  unfolding before_start
  before_fits [] = omega arith
  before_fits (b ∷ s) = by (may (b ∷ s)) (before_fits s)
    where
      by : (t : Bool) → before_start may s ≤ length s → cond t 0 (suc (before_start may s)) ≤ suc (length s)
      by true h = omega arith
      by false h = omega arith

  -- where the bytes agree with header and ID, one may
  module _ (S : Shape) (begins : (b : ℕ) (s : List ℕ) → S.agrees (b ∷ s) ≡ true → may (b ∷ s) ≡ true) where
    none_here : (b : ℕ) (s : List ℕ) → may (b ∷ s) ≡ false → NoneBegins (rules S) (settled_by S) (b ∷ s)
    none_here b s e = none_begins S (b ∷ s) (contrary (S.agrees (b ∷ s)) (may (b ∷ s)) (begins b s) e)

    pub none_before : (s : List ℕ) (q : ℕ) → q < before_start may s → NoneBegins (rules S) (settled_by S) (drop q s)
    unfolding before_start
    none_before [] q h = absurd (omega arith)
    none_before (b ∷ s) q h = by (may (b ∷ s)) refl q (none_before s) h
      where
        by : (t : Bool) → may (b ∷ s) ≡ t → (q : ℕ)
            → ((p : ℕ) → p < before_start may s → NoneBegins (rules S) (settled_by S) (drop p s))
            → q < cond t 0 (suc (before_start may s)) → NoneBegins (rules S) (settled_by S) (drop q (b ∷ s))
        by true e q go h = absurd (omega arith)
        by false e zero go h = none_here b s e
        by false e (suc q) go h = go q (omega arith)
