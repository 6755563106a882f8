-- Instructions with an entry for each device, which are sent to all devices: Sync Read and Sync Write, whose parameters are address,
-- length and entries.
use Rattle.std.specs.Prelude.{None, Option, Some}
use Rattle.std.specs.Prelude.{Bool, cond, List, ℕ, ◌+◌, take, drop}
use Rattle.device_instructions.specs.Instructions.{refusing, read, write}
use Rattle.device_instructions.specs.declared.RegisteredWrite.{RegisteredWrite}
use Rattle.device_parameters.specs.Parameters.{word_at, sync_search}
use Rattle.device_parameters.specs.declared.OwnEntry.{OwnEntry}
use Rattle.device_replies.specs.Replies.{own_id, silent, speaks, Reaction, reacting, unchanged}

-- by the own entry, if there is one: the slot and the offset at which it stands
abbrev pub by_entry : Option OwnEntry → List ℕ → RegisteredWrite → (ℕ → ℕ → Reaction) → Reaction
by_entry (Some entry) table w act = act entry.slot entry.offset
by_entry None table w act = reacting (unchanged table w) silent

-- answered in the slot of its entry [D24 D25 D31 D34 D46]
abbrev pub sync_read_by : List ℕ → RegisteredWrite → ℕ → ℕ → ℕ → Reaction
sync_read_by table w slot address n = reacting (read table w address n) (speaks 1 slot)

-- not answered [D24 D25 D31 D47]
abbrev pub sync_write_by : List ℕ → RegisteredWrite → ℕ → List ℕ → Reaction
sync_write_by table w address bytes = reacting (write table w address bytes) silent

-- an entry is an ID [D21 D22]
abbrev pub heard_sync_read : Bool → List ℕ → RegisteredWrite → List ℕ → Reaction
heard_sync_read all table w params =
    cond all
    (by_entry (sync_search 1 (own_id table) params) table w (λ slot at. sync_read_by table w slot (word_at params 0) (word_at params 2)))
    (reacting (refusing table w 0x02) (speaks 1 0))

-- an entry is an ID and as many bytes as the length says [D21 D22]
abbrev pub heard_sync_write : Bool → List ℕ → RegisteredWrite → List ℕ → Reaction
heard_sync_write all table w params =
    cond all
    (by_entry (sync_search (1 + word_at params 2) (own_id table) params) table w
    (λ slot at. sync_write_by table w (word_at params 0) (take (word_at params 2) (drop (at + 1) params))))
    (reacting (refusing table w 0x02) (speaks 2 0))
