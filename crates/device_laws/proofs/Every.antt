-- What holds of each effect holds of the effect of whatever is heard; it may hold of an Action without parameters alone.
use Rattle.std.specs.Prelude.{Option}
use mathlib.Core.Path.{◌≡◌, refl, sym, subst}
use mathlib.Core.Bool.{Bool, true, false, cond, ◌&&◌}
use mathlib.Core.List.{List, [], ◌∷◌}
use Prim.Native.Nat.{ℕ, ◌+◌, ◌≤◌}
use native.Mathlib.Omega.{arith}
use lib.Dec.{eqb, leb}
use lib.ListN.{length, get_or}
use borrow.Author.Tests.{eqb-true}
use Rattle.device_instructions.specs.Instructions.{Effect, refusing, ping, read, write, reg_write, action, reboot, factory_reset}
use Rattle.device_instructions.proofs.Options.{pick}
use Rattle.device_parameters.specs.Entries.{search}
use Rattle.device_parameters.specs.Parameters.{word_at, bulk_read, bulk_write, sync_search}
use Rattle.device_replies.specs.Replies.{ReplyRule, Reaction, reacting, unchanged, own_id}
use Rattle.device_sync.specs.Sync.{by_entry, heard_sync_read, heard_sync_write}
use Rattle.device_bulk.specs.Bulk.{heard_bulk_read, heard_bulk_write}
use Rattle.device_dispatch.specs.Reactions.{heard_undefined, heard_instruction, reaction}
use Rattle.device_laws.specs.Refused.{is_action}
use Rattle.device_instructions.specs.declared.RegisteredWrite.{RegisteredWrite}
use Rattle.device_parameters.specs.declared.OwnEntry.{OwnEntry}
use Rattle.device_dispatch.specs.declared.Heard.{Heard}
use Rattle.device_dispatch.specs.declared.Heard.TheVariants.{Packet, BadChecksum}
use Rattle.device_sync.proofs.Lists.{by_list}

-- what holds of the effect of an Action without parameters (true), and of every other (false)
module _ (P : Bool → Effect → Type 0) where
  pick_count : (b : Bool) (x y : Effect) → P true x → P false y → P b (cond b x y)
  pick_count true x y f g = f
  pick_count false x y f g = g

  -- an instruction by its number, and one that has another
  by_number : (i k : ℕ) (params : List ℕ) (x y : Reaction) → P (is_action Packet (k ∷ params)) x.effect
      → (eqb i k ≡ false → P (is_action Packet (i ∷ params)) y.effect) → P (is_action Packet (i ∷ params)) (cond (eqb i k) x y).effect
  by_number i k params x y f g = by_test (eqb i k) refl
    where
      by_test : (b : Bool) → eqb i k ≡ b → P (is_action Packet (i ∷ params)) (cond b x y).effect
      by_test true e = subst (λ (n : ℕ). P (is_action Packet (n ∷ params)) x.effect) (sym (eqb-true i k e)) f
      by_test false e = g e

  module _ (table : List ℕ) (w : RegisteredWrite) (refusals : (error : ℕ) → error ≤ 7 → P false (refusing table w error)) (nothing_done : P false (unchanged table w))
      (pings : P false (ping table w)) (reads : (address n : ℕ) → P false (read table w address n))
      (writes : (address : ℕ) (bytes : List ℕ) → P false (write table w address bytes))
      (reg-writes : (address : ℕ) (bytes : List ℕ) → P false (reg_write table w address bytes)) (actions : P true (action table w))
      (reboots : P false (reboot table w)) (resets : (option : ℕ) → P false (factory_reset table w option)) where
    listed : (all : Bool) (found : Option OwnEntry) (act : ℕ → ℕ → Reaction) (replying : ReplyRule) → ((slot at : ℕ) → P false (act slot at).effect)
        → P false (cond all (by_entry found table w act) (reacting (refusing table w 0x02) replying)).effect
    listed = by_list (P false) table w nothing_done (refusals 0x02 (omega arith))

    instruction : (i : ℕ) (all : Bool) (params : List ℕ) → P (is_action Packet (i ∷ params)) (heard_instruction i all table w params).effect
    unfolding heard_instruction
    instruction i all params =
        by_number i 0x01 params _ _ (pick (P false) (eqb (length params) 0) _ _ pings (refusals 0x05 (omega arith))) (λ _.
        by_number i 0x02 params _ _ (pick (P false) (eqb (length params) 4) _ _ (reads _ _) (refusals 0x05 (omega arith))) (λ _.
        by_number i 0x03 params _ _ (pick (P false) (leb 2 (length params)) _ _ (writes _ _) (refusals 0x05 (omega arith))) (λ _.
        by_number i 0x04 params _ _ (pick (P false) (leb 2 (length params)) _ _ (reg-writes _ _) (refusals 0x05 (omega arith))) (λ _.
        by_number i 0x05 params _ _ (pick_count (eqb (length params) 0) _ _ actions (refusals 0x05 (omega arith))) (λ other.
        by_number i 0x06 params _ _
        (pick (P false) (eqb (length params) 1) _ _ (pick (P false) (all && eqb (get_or params 0 0) 0xFF) _ _ nothing_done (resets (get_or params 0 0))) (refusals 0x05 (omega arith))) (λ _.
        by_number i 0x08 params _ _ (pick (P false) (eqb (length params) 0) _ _ reboots (refusals 0x05 (omega arith))) (λ _.
        by_number i 0x55 params _ _ nothing_done (λ _.
        by_number i 0x82 params (heard_sync_read all table w params) _ (listed all (sync_search 1 (own_id table) params) _ _ (λ slot at. reads _ _)) (λ _.
        by_number i 0x83 params (heard_sync_write all table w params) _
        (listed all (sync_search (1 + word_at params 2) (own_id table) params) _ _ (λ slot at. writes _ _)) (λ _.
        by_number i 0x92 params (heard_bulk_read all table w params) _ (listed all (search bulk_read (own_id table) params 0) _ _ (λ slot at. reads _ _)) (λ _.
        by_number i 0x93 params (heard_bulk_write all table w params) (heard_undefined all table w)
        (listed all (search bulk_write (own_id table) params 0) _ _ (λ slot at. writes _ _)) (λ _.
        rw other (refusals 0x02 (omega arith))))))))))))))

    pub every : (heard : Heard) (all : Bool) (body : List ℕ) → P (is_action heard body) (reaction heard all table w body).effect
    every BadChecksum all body = refusals 0x03 (omega arith)
    every Packet all [] = refusals 0x02 (omega arith)
    every Packet all (i ∷ params) = instruction i all params
