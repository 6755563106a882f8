use mathlib.Core.Path.{◌≡◌, sym, ap, ◌∙◌}
use mathlib.Core.Logic.{⊎_elim}
use Prim.Native.Nat.{ℕ, ◌+◌, ◌-◌, ◌<◌, ◌≤◌}
use mir.Syntax.{w32}
use mir.Facts.{to_z-of_z}
use native.Mathlib.Omega.{arith}
use lib.ListN.{length}
use borrow.Author.Rules.{rules}
use Rattle.lists.specs.Numbers.{number_at}
use Rattle.table_items.specs.Items.{signed}
use Rattle.table_rules.specs.Rules.{stored}
use Rattle.table_rules.proofs.Walks.{whole_before, whole_inside}
use Rattle.table_rules.proofs.Stored.{number_at_lem, number_before, number_after}
use Rattle.table_rules.proofs.word_after.Goals as goal

pub returns-then-contains : goal.returns-then-contains
returns-then-contains c =
    let a = c.args in
    let d = c.if-contains.ensures.cases in
    let low : a.address ≤ a.a = search rules in
    let high : a.a < a.address + length a.bytes.now = search rules in
    let w = whole_inside a.address _ a.a c.requires.2 low high in
    let e : a.a ≡ a.address + (a.a - a.address) = omega arith in
    to_z-of_z {w = w32} (record { sfits = c.signed_at.type_inv })
    ∙ c.signed_at.ensures
    ∙ ap signed (sym (ap (λ (n : ℕ). number_at (stored a.table.now a.address a.bytes.now) n 4) e
    ∙ number_at_lem a.table.now a.address a.bytes.now c.requires.0 (a.a - a.address) 4 (omega arith)))

pub returns-else-contains : goal.returns-else-contains
returns-else-contains c =
    let a = c.args in
    to_z-of_z {w = w32} (record { sfits = c.signed_at-else-contains.type_inv })
    ∙ c.signed_at-else-contains.ensures
    ∙ ap signed (sym (⊎_elim
    (λ h. number_before a.table.now a.address a.bytes.now c.requires.0 a.a 4 (whole_before a.address _ a.a c.requires.2 (search rules)))
    (λ h. number_after a.table.now a.address a.bytes.now c.requires.0 a.a 4 (search rules)) c.if-contains.ensures.cases))
