-- What holds of the effect of an instruction with a list: it is refused unless sent to all devices, and goes by the own entry.
use Rattle.std.specs.Prelude.{None, Option, Some}
use mathlib.Core.Bool.{Bool, true, false, cond}
use mathlib.Core.List.{List}
use Prim.Native.Nat.{ℕ}
use Rattle.device_instructions.specs.Instructions.{Effect, refusing}
use Rattle.device_instructions.specs.declared.RegisteredWrite.{RegisteredWrite}
use Rattle.device_parameters.specs.declared.OwnEntry.{OwnEntry}
use Rattle.device_replies.specs.Replies.{ReplyRule, Reaction, reacting, unchanged}
use Rattle.device_sync.specs.Sync.{by_entry}

pub by_list : (P : Effect → Type 0) (table : List ℕ) (w : RegisteredWrite) → P (unchanged table w) → P (refusing table w 0x02)
    → (all : Bool) (found : Option OwnEntry) (act : ℕ → ℕ → Reaction) (replying : ReplyRule) → ((slot at : ℕ) → P (act slot at).effect)
    → P (cond all (by_entry found table w act) (reacting (refusing table w 0x02) replying)).effect
by_list P table w idle refused false found act replying f = refused
by_list P table w idle refused true (Some entry) act replying f = f entry.slot entry.offset
by_list P table w idle refused true None act replying f = idle
