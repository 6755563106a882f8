-- Which instruction is carried out, and how that is answered.
use Rattle.std.specs.Prelude.{Bool, cond, List, [], ◌∷◌, ℕ, eqb}
use Rattle.device_instructions.specs.Instructions.{refusing}
use Rattle.device_instructions.specs.declared.RegisteredWrite.{RegisteredWrite}
use Rattle.device_dispatch.specs.declared.Heard.{Heard}
use Rattle.device_dispatch.specs.declared.Heard.TheVariants.{Packet, BadChecksum}
pub use Rattle.device_replies.specs.Replies.{own_id, ReplyRule, silent, speaks, own_only, Reaction, reacting, unchanged, counted}
pub use Rattle.device_single.specs.Single.{heard_ping, heard_read, heard_write, heard_reg_write, heard_action, heard_reboot, heard_factory_reset}
pub use Rattle.device_sync.specs.Sync.{heard_sync_read, heard_sync_write}
pub use Rattle.device_bulk.specs.Bulk.{heard_bulk_read, heard_bulk_write}

-- [D26]
abbrev pub heard_undefined : Bool → List ℕ → RegisteredWrite → Reaction
heard_undefined all table w = reacting (refusing table w 0x02) (own_only all 2)

-- [D2 G4]
unfoldable pub heard_instruction : ℕ → Bool → List ℕ → RegisteredWrite → List ℕ → Reaction
heard_instruction instruction all table w params =
    cond (eqb instruction 0x01) (heard_ping all table w params)
    (cond (eqb instruction 0x02) (heard_read all table w params)
    (cond (eqb instruction 0x03) (heard_write all table w params)
    (cond (eqb instruction 0x04) (heard_reg_write all table w params)
    (cond (eqb instruction 0x05) (heard_action all table w params)
    (cond (eqb instruction 0x06) (heard_factory_reset all table w params)
    (cond (eqb instruction 0x08) (heard_reboot all table w params)
    (cond (eqb instruction 0x55) (reacting (unchanged table w) silent)
    (cond (eqb instruction 0x82) (heard_sync_read all table w params)
    (cond (eqb instruction 0x83) (heard_sync_write all table w params)
    (cond (eqb instruction 0x92) (heard_bulk_read all table w params)
    (cond (eqb instruction 0x93) (heard_bulk_write all table w params) (heard_undefined all table w))))))))))))

-- a body without a byte is heard as an undefined instruction; a bad checksum has no body [D3 D27]
abbrev pub reaction : Heard → Bool → List ℕ → RegisteredWrite → List ℕ → Reaction
reaction BadChecksum all table w body = reacting (refusing table w 0x03) (own_only all 2)
reaction Packet all table w [] = heard_undefined all table w
reaction Packet all table w (instruction ∷ params) = heard_instruction instruction all table w params
