-- The parts of the write rule that its private functions answer.
use Rattle.std.specs.Prelude.{Option}
use Rattle.std.specs.Prelude.{Bool, not, ◌&&◌, ◌||◌, List, [], ◌∷◌, ℕ, ◌+◌, leb, ltb}
use Rattle.answers.specs.Refusals.{first_failing}
use Rattle.table_registers.specs.Registers.{registers}
use Rattle.table_items.specs.Items.{value_in_range}
use Rattle.table_rules.specs.Rules.{covers, every_touched}

-- the n bytes from `address` on have all four bytes of the item at a, or none of them
abbrev pub whole : ℕ → ℕ → ℕ → Bool
whole address n a = not (ltb a (address + n) && ltb address (a + 4)) || (leb address a && leb (a + 4) (address + n))

-- the two stages of the write rule that go by items
unfoldable pub items_rule : ℕ → ℕ → List ℕ → Option ℕ
items_rule address n new =
    first_failing
    ((every_touched address n (covers address n) registers, 0x05) ∷ (every_touched address n (value_in_range new) registers, 0x04) ∷ [])
