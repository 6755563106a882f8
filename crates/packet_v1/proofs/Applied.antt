use mathlib.Core.Path.{refl}
use Prim.Native.Nat.{ℕ}
use native.Mathlib.Omega.{arith}
use lib.ListN.{replicate}
use borrow.Author.Tests.{leb-true}
use Rattle.reading.specs.Promise.{Followed}
use Rattle.packet_rules.specs.Shape.{rules}
use Rattle.packet_v1.specs.Verdict.{shape_up_to}
use Rattle.packet_v1.specs.Kept.{RulesKept}
use Rattle.packet_v1.specs.Applied.{RulesKeptApplied}

enough : (last : ℕ) → RulesKept last
    → Followed (rules (shape_up_to last)) (replicate 258 0) × (¬ Followed (rules (shape_up_to last)) (replicate 257 0))
enough last t = (
  (t.followed_by_258 (replicate 258 0)).1 (leb-true _ _ refl),
  λ f. let few = (t.followed_by_258 (replicate 257 0)).0 f in absurd (omega (arith, few)),
)

pub rules_kept_applied : RulesKeptApplied
rules_kept_applied = (λ t. enough _ t, λ t. enough _ t)
