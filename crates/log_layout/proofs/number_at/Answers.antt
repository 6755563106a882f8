use mathlib.Core.Path.{sym, ap, ◌∙◌}
use Prim.Native.Nat.{ℕ}
use mathlib.Core.List.{List}
use native.Mathlib.Omega.{arith}
use Rattle.lists.proofs.Numbers.{read_is, four_bytes}
use Rattle.log_layout.specs.Layout.{u32_at}
use Rattle.log_layout.proofs.Rounds.{u32_behind, u32_tail}
use Rattle.log_layout.proofs.number_at.Goals as goal

pub returns-in-Some : goal.returns-in-Some
returns-in-Some c =
    rw (c.byte_at.ensures, c.byte_at-in-Some.ensures, c.byte_at-in-Some-2.ensures, c.byte_at-in-Some-3.ensures) at c.from_le_bytes.ensures ∙ read_is _ _ _ _ ∙ four_bytes _ 0 ∙ ap (λ (s : List ℕ). u32_at s 0) c.in-Some.ensures.lookup.0.2 ∙ u32_tail _ _

pub returns-in-Some-len4-up : goal.returns-in-Some-len4-up
returns-in-Some-len4-up c =
    c.from_le_bytes-in-Some-len4-up.ensures ∙ read_is _ _ _ _ ∙ four_bytes _ 0 ∙ ap (λ (s : List ℕ). u32_at s 0) c.in-Some-len4-up.ensures.lookup.0.2 ∙ u32_tail _ _

pub returns-in-None : goal.returns-in-None
returns-in-None c = let a = c.args in let h = c.in-None.ensures.lookup in sym (u32_behind a.file.now a.offset (omega (arith, h)))
