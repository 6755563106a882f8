-- What the functions answer: a reaction without its table, as the code tells it.
use Rattle.std.specs.Prelude.{None, Option, Some}
use Rattle.std.specs.Prelude.{List, ℕ}
use Rattle.table_rules.specs.Outcomes.{in_table}
use Rattle.device_instructions.specs.Instructions.{refusing}
use Rattle.device_instructions.specs.declared.RegisteredWrite.{RegisteredWrite}
use Rattle.device_replies.specs.declared.Level.{Level}
use Rattle.device_replies.specs.declared.Level.TheVariants.{Ping, Read, All}
use Rattle.device_replies.specs.declared.ReplyAt.{ReplyAt}
use Rattle.device_replies.specs.declared.Reacted.{Reacted}
use Rattle.device_replies.specs.Replies.{ReplyRule, silent, speaks, Reaction, reacting}
use Rattle.device_instructions.specs.Results.{Done, done_in, done_of, sized}

-- what was done, and how that is answered
pub record Told : Type 0 where
  pub done : Done
  pub replying : ReplyRule

abbrev pub reacted_by : ReplyRule → Done → Told
reacted_by replying done = record { done = done; replying = replying }

abbrev pub reacted_of : Reaction → Told
reacted_of r = reacted_by r.replying (done_of r.effect)

abbrev pub level_number : Level → ℕ
level_number Ping = 0
level_number Read = 1
level_number All = 2

abbrev pub replying_of : Option ReplyAt → ReplyRule
replying_of None = silent
replying_of (Some at) = speaks at.level at.slot

-- an answer of the code, with the registered write that it left
abbrev pub told : Reacted → RegisteredWrite → Told
told r w = reacted_by (replying_of r.reply) (done_in r.outcome w)

-- a fault of the caller is told in the place of the error number; nothing is done, and nothing is answered
abbrev pub reaction_unless : Option ℕ → List ℕ → RegisteredWrite → Reaction → Reaction
reaction_unless None table w r = r
reaction_unless (Some number) table w r = reacting (refusing table w number) silent

abbrev pub sized_reaction : List ℕ → RegisteredWrite → Reaction → Reaction
sized_reaction table w r = reaction_unless (in_table table None) table w r

-- the same where the fault is told by what is done alone, which is answered as ever
abbrev pub sized_effect : List ℕ → RegisteredWrite → Reaction → Reaction
sized_effect table w r = reacting (sized table w r.effect) r.replying
