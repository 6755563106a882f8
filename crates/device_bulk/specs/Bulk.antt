-- Bulk Read and Bulk Write: their parameters are entries alone, each with an address and a length of its own.
use Rattle.std.specs.Prelude.{Bool, cond, List, ℕ, ◌+◌, take, drop}
use Rattle.device_instructions.specs.Instructions.{refusing}
use Rattle.device_instructions.specs.declared.RegisteredWrite.{RegisteredWrite}
use Rattle.device_parameters.specs.Entries.{search}
use Rattle.device_parameters.specs.Parameters.{word_at, bulk_read, bulk_write}
use Rattle.device_replies.specs.Replies.{own_id, own_only, Reaction, reacting}
use Rattle.device_sync.specs.Sync.{by_entry, sync_read_by, sync_write_by}

-- an entry is an ID, an address and a length [D43 D44 D46]
abbrev pub heard_bulk_read : Bool → List ℕ → RegisteredWrite → List ℕ → Reaction
heard_bulk_read all table w params =
    cond all
    (by_entry (search bulk_read (own_id table) params 0) table w
    (λ slot at. sync_read_by table w slot (word_at params (at + 1)) (word_at params (at + 3))))
    (reacting (refusing table w 0x02) (own_only all 1))

-- and then as many bytes as the length says [D43 D44 D47]
abbrev pub heard_bulk_write : Bool → List ℕ → RegisteredWrite → List ℕ → Reaction
heard_bulk_write all table w params =
    cond all
    (by_entry (search bulk_write (own_id table) params 0) table w
    (λ slot at. sync_write_by table w (word_at params (at + 1)) (take (word_at params (at + 3)) (drop (at + 5) params))))
    (reacting (refusing table w 0x02) (own_only all 2))
