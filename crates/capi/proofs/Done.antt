-- A call that has nothing to count, as C gets it.
use Rattle.std.specs.Prelude.{None, Option, Some}
use mathlib.Core.Path.{◌≡◌, refl}
use Rattle.answers.specs.declared.Refusal.{Refusal}
use Rattle.answers.specs.Answers.{answered, exported, exported_done}

-- done is the count 0
pub done_is : (r : Option Refusal) → exported_done (answered r tt) ≡ exported (answered r 0)
done_is None = refl
done_is (Some refusal) = refl
