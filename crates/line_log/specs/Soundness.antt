-- The test of soundness: it accepts the sound logs and no others.
use Rattle.std.specs.Prelude.{None, Option}
use Rattle.std.specs.Prelude.{◌≡◌, Bool, true, false, ◌&&◌, List, [], ◌∷◌, ℕ, eqb}
use Rattle.answers.specs.Refusals.{first_failing}
use Rattle.answers.specs.declared.Refusal.{Refusal}
use Rattle.answers.specs.declared.Refusal.TheVariants.{BadLog, WrongIndex}
use Rattle.lists.specs.Numbers.{Bytes}
use Rattle.log_index.specs.Last.{index}
use Rattle.log_layout.specs.Log.{Sound}
use Rattle.log_layout.specs.Layout.{index_in, segments_in, laid_out}

unfoldable pub same_numbers : List ℕ → List ℕ → Bool
same_numbers [] [] = true
same_numbers [] (y ∷ ys) = false
same_numbers (x ∷ xs) [] = false
same_numbers (x ∷ xs) (y ∷ ys) = eqb x y && same_numbers xs ys

-- the layout, and then the index, which has to be that of the segments [I10 I16 N15 N17]
unfoldable pub check_refusal : List ℕ → Option Refusal
check_refusal file = first_failing ((laid_out file, BadLog) ∷ (same_numbers (index_in file) (index (segments_in file)), WrongIndex) ∷ [])

-- "A sound log is exactly this": of bytes, as every slice is, these are not refused, and no others [I17]
pub record SoundExactly : Type 0 where
  pub accepts : (file : List ℕ) → Sound file → check_refusal file ≡ None
  pub only : (file : List ℕ) → Bytes file → check_refusal file ≡ None → Sound file
