-- What the packet rules of Protocol 1.0 and Mercury keep, so that demand 3 holds of every reader that goes by them.
use Rattle.std.specs.Prelude.{ℕ, ◌≤◌, List, length}
use Rattle.reading.specs.Rules.{Laws}
use Rattle.reading.specs.Progress.{Settles}
use Rattle.reading.specs.Promise.{Followed}
use Rattle.packet_rules.specs.Shape.{rules}
use Rattle.packet_rules.specs.Answers.{settled_by}
use Rattle.packet_v1.specs.Verdict.{shape_up_to}

-- where the IDs of devices end with `last` [O8]
pub record RulesKept (last : ℕ) : Type 0 where
  pub laws : Laws (rules (shape_up_to last))
  pub settles : Settles (rules (shape_up_to last)) (settled_by (shape_up_to last))
  -- one byte less than the longest packet: 258
  pub followed_by_258 : (s : List ℕ) → (Followed (rules (shape_up_to last)) s → 258 ≤ length s) × (258 ≤ length s → Followed (rules (shape_up_to last)) s)
