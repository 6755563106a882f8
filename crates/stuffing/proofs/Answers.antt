-- What a caller learns from each case of an answer.
use Rattle.std.specs.Prelude.{None, Some, Ok}
use mathlib.Core.Path.{◌≡◌, refl}
use mathlib.Core.Bool.{Bool, true, false, cond}
use mathlib.Core.List.{List}
use Prim.Native.Nat.{ℕ, ◌≤◌}
use native.Mathlib.Omega.{arith}
use lib.Dec.{leb}
use lib.ListN.{length}
use borrow.Author.Tests.{leb-true}
use Rattle.answers.specs.declared.Refusal.TheVariants.{BadStuffing, NoRoom}
use Rattle.answers.proofs.Laws.{counted as answered-count, passed}
use Rattle.stuffing.specs.Stuffing.{well_stuffed, unstuff}
use Rattle.stuffing.specs.Answers.{checked, removal_refusal, removal_answer}

pub checked_bad : (body : List ℕ) → checked body ≡ None → well_stuffed body ≡ false
checked_bad body e = go (well_stuffed body) e
  where
    go : (w : Bool) → cond w (Some (length (unstuff body))) None ≡ None → w ≡ false
    go false e = refl
    go true e = let z : ◌≡◌ {A = ℕ} 0 1 = cc in absurd (omega arith)

pub checked_good : (body : List ℕ) (n : ℕ) → checked body ≡ Some n → (well_stuffed body ≡ true) × (length (unstuff body) ≡ n)
checked_good body n e = go (well_stuffed body) e
  where
    go : (w : Bool) → cond w (Some (length (unstuff body))) None ≡ Some n → (w ≡ true) × (length (unstuff body) ≡ n)
    go true e = (refl, cc)
    go false e = let z : ◌≡◌ {A = ℕ} 0 1 = cc in absurd (omega arith)

module _ (body out : List ℕ) where
  pub record Removed (n : ℕ) : Type 0 where
    pub unrefused : removal_refusal body out ≡ None
    pub well : well_stuffed body ≡ true
    pub counted : length (unstuff body) ≡ n
    pub room : n ≤ length out

  pub removed : (n : ℕ) → removal_answer body out ≡ Ok n → Removed n
  unfolding removal_refusal
  removed n e =
      let c = answered-count (removal_refusal body out) (length (unstuff body)) n e in
      let w = passed (well_stuffed body) BadStuffing _ c.0 in
      let r = passed (leb (length (unstuff body)) (length out)) NoRoom None w.1 in
      record { unrefused = c.0; well = w.0; counted = c.1; room = omega (arith, leb-true (length (unstuff body)) (length out) r.0, c.1) }
