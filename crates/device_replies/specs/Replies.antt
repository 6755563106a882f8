-- How an instruction is answered.
use Rattle.std.specs.Prelude.{Bool, cond, List, [], ℕ, get_or}
use Rattle.table_registers.specs.Registers.{device_id}
use Rattle.device_instructions.specs.Instructions.{Effect, leaving, refusing}
use Rattle.device_instructions.specs.declared.RegisteredWrite.{RegisteredWrite}

-- [D1]
abbrev pub own_id : List ℕ → ℕ
own_id table = get_or table device_id.address 0

-- How an instruction is answered: not at all, or from a status return level on and in a reply slot (the paper's turn number).
pub data ReplyRule : Type 0 where
  silent : ReplyRule
  speaks : ℕ → ℕ → ReplyRule

-- to the own ID only; `all` says that it was sent to all devices [D10 D31 D34]
abbrev pub own_only : Bool → ℕ → ReplyRule
own_only all level = cond all silent (speaks level 0)

-- what is done, and how that is answered: a refusal at the level of its instruction [D33]
pub record Reaction : Type 0 where
  pub effect : Effect
  pub replying : ReplyRule

abbrev pub reacting : Effect → ReplyRule → Reaction
reacting effect replying = record { effect = effect; replying = replying }

abbrev pub unchanged : List ℕ → RegisteredWrite → Effect
unchanged table w = leaving table w 0 []

-- a wrong count of parameters comes before anything else [D4]
abbrev pub counted : Bool → List ℕ → RegisteredWrite → Effect → Effect
counted right table w effect = cond right effect (refusing table w 0x05)
