-- The stage 06 is the tests of the papers taken together.
use mathlib.Core.Path.{◌≡◌, refl, sym}
use mathlib.Core.Bool.{Bool, true, false, not, ◌&&◌, ◌||◌, and-true, and-false, or-true}
use mathlib.Core.List.{List}
use Prim.Native.Nat.{ℕ}
use lib.Signed.{le_z}
use Rattle.lists.proofs.Bools.{and_left, and_right}
use Rattle.table_registers.specs.Registers.{min_position, max_position, goal_position}
use Rattle.table_items.specs.Items.{value_of}
use Rattle.table_items.proofs.Signed.{le_trans}
use Rattle.table_rules.specs.Rules.{touches, goal_inside, limits_kept}
use Rattle.table_rules.specs.LimitTests.{limit_touched, LimitTests}

-- over what the tests say, where limits around the goal are in order
together : (limit goal inside ordered : Bool) → (inside ≡ true → ordered ≡ true)
    → (not (limit || goal) || inside) ≡ ((not limit || ordered) && ((not goal || inside) && (not limit || inside)))
together false false inside ordered f = refl
together false true inside ordered f = sym (and-true inside)
together true goal true ordered f = rw (f refl, or-true (not goal))
together true goal false ordered f = rw (and-false (not goal || false), and-false ordered)

-- limits around the goal are in order
pub around : (new : List ℕ) → goal_inside new ≡ true → le_z (value_of min_position new) (value_of max_position new) ≡ true
unfolding goal_inside
around new e =
    let low = le_z (value_of min_position new) (value_of goal_position new) in
    let high = le_z (value_of goal_position new) (value_of max_position new) in
    le_trans (value_of min_position new) (value_of goal_position new) (value_of max_position new) (and_left low high e) (and_right low high e)

pub limit_tests : LimitTests
unfolding limits_kept
limit_tests a n new =
    together (limit_touched a n) (touches a n goal_position) (goal_inside new) (le_z (value_of min_position new) (value_of max_position new)) (around new)
