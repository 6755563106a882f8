-- An instruction by its number, and what was heard.
use Rattle.std.specs.Prelude.{None, Option, Some}
use mathlib.Core.Path.{◌≡◌, refl}
use mathlib.Core.Bool.{Bool, true, false, cond}
use mathlib.Core.List.{List, [], ◌∷◌}
use Prim.Native.Nat.{ℕ}
use native.Mathlib.Omega.{arith}
use lib.Dec.{eqb}
use lib.ListN.{length, get_or, drop}
use Rattle.device_instructions.specs.Instructions.{Effect, refusing, read}
use Rattle.device_instructions.specs.declared.RegisteredWrite.{RegisteredWrite}
use Rattle.device_parameters.specs.Entries.{search}
use Rattle.device_parameters.specs.Parameters.{bulk_read, sync_search}
use Rattle.device_parameters.specs.declared.OwnEntry.{OwnEntry}
use Rattle.device_replies.specs.Replies.{ReplyRule, silent, own_only, Reaction, reacting, unchanged, own_id}
use Rattle.device_codes.specs.Codes.{instruction_of}
use Rattle.device_codes.specs.declared.Instruction.{Instruction}
use Rattle.device_codes.specs.declared.Instruction.TheVariants.{Ping, Read, Write, RegWrite, Action, FactoryReset, Reboot, Status, SyncRead, SyncWrite, BulkRead, BulkWrite}
use Rattle.device_single.specs.Single.{heard_ping, heard_read, heard_write, heard_reg_write, heard_action, heard_reboot, heard_factory_reset}
use Rattle.device_sync.specs.Sync.{by_entry, heard_sync_read, heard_sync_write}
use Rattle.device_sync.proofs.Lists.{by_list}
use Rattle.device_bulk.specs.Bulk.{heard_bulk_read, heard_bulk_write}
use Rattle.device_dispatch.specs.Reactions.{reaction, heard_undefined, heard_instruction}
use Rattle.device_dispatch.specs.declared.Heard.{Heard}
use Rattle.device_dispatch.specs.declared.Heard.TheVariants.{Packet, BadChecksum}

-- ---- lists by which the table is read leave it

module _ (table : List ℕ) (w : RegisteredWrite) where
  list_keeps : (all : Bool) (found : Option OwnEntry) (act : ℕ → ℕ → Reaction) (replying : ReplyRule) → ((slot at : ℕ) → table ≡ (act slot at).effect.table)
      → table ≡ (cond all (by_entry found table w act) (reacting (refusing table w 0x02) replying)).effect.table
  list_keeps = by_list (λ (e : Effect). table ≡ e.table) table w refl refl

  pub sync_read_keeps : (all : Bool) (params : List ℕ) → table ≡ (heard_sync_read all table w params).effect.table
  unfolding read
  sync_read_keeps all params = list_keeps all (sync_search 1 (own_id table) params) _ _ (λ slot at. refl)

  pub bulk_read_keeps : (all : Bool) (params : List ℕ) → table ≡ (heard_bulk_read all table w params).effect.table
  unfolding read
  bulk_read_keeps all params = list_keeps all (search bulk_read (own_id table) params 0) _ _ (λ slot at. refl)

-- ---- an instruction by its number

-- what is done with an instruction, and with a number that is none
abbrev pub heard_as : Option Instruction → Bool → List ℕ → RegisteredWrite → List ℕ → Reaction
heard_as None all table w params = heard_undefined all table w
heard_as (Some Ping) all table w params = heard_ping all table w params
heard_as (Some Read) all table w params = heard_read all table w params
heard_as (Some Write) all table w params = heard_write all table w params
heard_as (Some RegWrite) all table w params = heard_reg_write all table w params
heard_as (Some Action) all table w params = heard_action all table w params
heard_as (Some FactoryReset) all table w params = heard_factory_reset all table w params
heard_as (Some Reboot) all table w params = heard_reboot all table w params
heard_as (Some Status) all table w params = reacting (unchanged table w) silent
heard_as (Some SyncRead) all table w params = heard_sync_read all table w params
heard_as (Some SyncWrite) all table w params = heard_sync_write all table w params
heard_as (Some BulkRead) all table w params = heard_bulk_read all table w params
heard_as (Some BulkWrite) all table w params = heard_bulk_write all table w params

module _ (all : Bool) (table : List ℕ) (w : RegisteredWrite) (params : List ℕ) where
  or_else : (b : Bool) (k l : Option Instruction) (q : Reaction) → heard_as l all table w params ≡ q
      → heard_as (cond b k l) all table w params ≡ cond b (heard_as k all table w params) q
  or_else true k l q e = refl
  or_else false k l q e = e

  coded : (i : ℕ) → heard_as (instruction_of i) all table w params ≡ heard_instruction i all table w params
  unfolding instruction_of heard_instruction
  coded i =
      or_else (eqb i 0x01) (Some Ping) _ _ (or_else (eqb i 0x02) (Some Read) _ _ (or_else (eqb i 0x03) (Some Write) _ _
      (or_else (eqb i 0x04) (Some RegWrite) _ _ (or_else (eqb i 0x05) (Some Action) _ _ (or_else (eqb i 0x06) (Some FactoryReset) _ _
      (or_else (eqb i 0x08) (Some Reboot) _ _ (or_else (eqb i 0x55) (Some Status) _ _ (or_else (eqb i 0x82) (Some SyncRead) _ _
      (or_else (eqb i 0x83) (Some SyncWrite) _ _ (or_else (eqb i 0x92) (Some BulkRead) _ _ (or_else (eqb i 0x93) (Some BulkWrite) _ _ refl)))))))))))

  pub by_number : (i : ℕ) (k : Option Instruction) → k ≡ instruction_of i → heard_as k all table w params ≡ heard_instruction i all table w params
  by_number i k e = rw e (coded i)

-- ---- what was heard

module _ (all : Bool) (table : List ℕ) (w : RegisteredWrite) (heard : Heard) where
  pub bad_checksum_lem : (body : List ℕ) → heard ≡ BadChecksum → reacting (refusing table w 0x03) (own_only all 2) ≡ reaction heard all table w body
  bad_checksum_lem body e = rw e

  pub empty_body : (body : List ℕ) → heard ≡ Packet → length body ≡ 0 → heard_undefined all table w ≡ reaction heard all table w body
  empty_body [] e h = rw e
  empty_body (x ∷ xs) e h = absurd (omega arith)

  pub some_body : (body : List ℕ) → heard ≡ Packet → (length body ≡ 0 → ⊥)
      → heard_instruction (get_or body 0 0) all table w (drop 1 body) ≡ reaction heard all table w body
  some_body [] e h = absurd (h refl)
  some_body (x ∷ xs) e h = rw e
