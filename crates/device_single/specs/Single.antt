-- Each instruction with parameters of its own: what is done, and how that is answered.
use Rattle.std.specs.Prelude.{Bool, cond, ◌&&◌, List, ℕ, leb, eqb, length, drop, get_or}
use Rattle.device_instructions.specs.Instructions.{ping, read, write, reg_write, action, reboot, factory_reset}
use Rattle.device_instructions.specs.declared.RegisteredWrite.{RegisteredWrite}
use Rattle.device_parameters.specs.Parameters.{word_at}
use Rattle.device_replies.specs.Replies.{own_id, silent, speaks, own_only, Reaction, reacting, unchanged, counted}

-- [D8 D31 D34]
abbrev pub heard_ping : Bool → List ℕ → RegisteredWrite → List ℕ → Reaction
heard_ping all table w params =
    let right = eqb (length params) 0 in
    reacting (counted right table w (ping table w)) (cond all (cond right (speaks 0 (own_id table)) silent) (speaks 0 0))

-- [D9 D10]
abbrev pub heard_read : Bool → List ℕ → RegisteredWrite → List ℕ → Reaction
heard_read all table w params =
    reacting (counted (eqb (length params) 4) table w (read table w (word_at params 0) (word_at params 2))) (own_only all 1)

-- [D11]
abbrev pub heard_write : Bool → List ℕ → RegisteredWrite → List ℕ → Reaction
heard_write all table w params =
    reacting (counted (leb 2 (length params)) table w (write table w (word_at params 0) (drop 2 params))) (own_only all 2)

-- [D12]
abbrev pub heard_reg_write : Bool → List ℕ → RegisteredWrite → List ℕ → Reaction
heard_reg_write all table w params =
    reacting (counted (leb 2 (length params)) table w (reg_write table w (word_at params 0) (drop 2 params))) (own_only all 2)

-- [D15]
abbrev pub heard_action : Bool → List ℕ → RegisteredWrite → List ℕ → Reaction
heard_action all table w params = reacting (counted (eqb (length params) 0) table w (action table w)) (own_only all 2)

-- [D16]
abbrev pub heard_reboot : Bool → List ℕ → RegisteredWrite → List ℕ → Reaction
heard_reboot all table w params = reacting (counted (eqb (length params) 0) table w (reboot table w)) (own_only all 2)

-- FF to all devices does nothing: they would all get the same ID [D17 D20]
abbrev pub heard_factory_reset : Bool → List ℕ → RegisteredWrite → List ℕ → Reaction
heard_factory_reset all table w params =
    let option = get_or params 0 0 in
    reacting
    (counted (eqb (length params) 1) table w (cond (all && eqb option 0xFF) (unchanged table w) (factory_reset table w option)))
    (own_only all 2)
