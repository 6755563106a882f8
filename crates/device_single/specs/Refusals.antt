-- What the private functions answer: refusals that come before the instruction.
use Rattle.std.specs.Prelude.{◌≡◌, Bool, false, List, ℕ}
use Rattle.device_instructions.specs.Instructions.{Effect}
use Rattle.device_instructions.specs.declared.RegisteredWrite.{RegisteredWrite}
use Rattle.device_replies.specs.Replies.{ReplyRule, own_only, Reaction, reacting, counted}
use Rattle.device_replies.specs.Results.{told, reacted_of, sized_reaction}
use Rattle.device_replies.specs.declared.Reacted.{Reacted}

-- it is told whatever the instruction would do, and the table stays; a wrong count is answered to the own ID only [D4]
abbrev pub TellsRefusal : Bool → Bool → ℕ → List ℕ → Reacted → Type 0
TellsRefusal right all level table r =
    (w : RegisteredWrite) (e : Effect) (replying : ReplyRule) → (right ≡ false → replying ≡ own_only all level)
    → (told r w ≡ reacted_of (sized_reaction table w (reacting (counted right table w e) replying)))
    × (table ≡ (sized_reaction table w (reacting (counted right table w e) replying)).effect.table)
