use Rattle.std.specs.Prelude.{Result, Ok, Err}
use mathlib.Core.Bool.{Bool, true, false}
use mathlib.Core.Path.{refl, sym, subst, ◌∙◌}
use mathlib.Core.List.{List}
use mathlib.Core.Logic.{inl, inr}
use Prim.Native.Nat.{ℕ}
use lib.IntN.{ℤ}
use mir.Facts.{to_z-of_z}
use mir.Syntax.{w64}
use Rattle.plan_check.specs.Tested.{TestSays}
use Rattle.answers.specs.declared.Refusal.{Refusal}
use Rattle.numbers.specs.Exported.{tested_number}
use Rattle.plan_heard.proofs.OnBoard.{plan_carried_out}
use Rattle.capi.specs.Plans.{CheckSays}
use Rattle.capi.proofs.dxl_plan_check.Goals as goal

says : (goals : List ℤ) (bytes : List ℕ) (t : Result Bool Refusal) → TestSays goals bytes t → CheckSays goals bytes (tested_number t)
says goals bytes (Ok true) p = rw p.0 (inl (refl, p.1))
says goals bytes (Ok false) p = rw p.0 (inr (refl, p.1))
says goals bytes (Err refusal) p = rw p refl

pub returns : goal.returns
returns c =
    let a = c.args in record {
      check_says = subst (CheckSays a.goals.now a.plan.now)
          (sym (to_z-of_z {w = w64} (record { sfits = c.tested.type_inv }) ∙ c.tested.ensures)) (says a.goals.now a.plan.now c.check.result c.check.ensures);
      plan_carried_out = plan_carried_out;
    }
