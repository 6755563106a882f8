use Rattle.std.specs.Prelude.{None, Option, Some}
use mathlib.Core.Path.{◌≡◌, refl, sym, ap, ◌∙◌}
use mathlib.Core.List.{List}
use Prim.Native.Nat.{ℕ}
use Rattle.device_codes.specs.Codes.{instruction_of}
use Rattle.device_codes.specs.declared.Instruction.{Instruction}
use Rattle.device_codes.specs.declared.Instruction.TheVariants.{Ping, Read, Write, RegWrite, Action, FactoryReset, Reboot, Status, SyncRead, SyncWrite, BulkRead, BulkWrite}
use Rattle.device_dispatch.specs.Reactions.{Reaction, heard_instruction}
use Rattle.device_replies.specs.Results.{Told, reacted_of, sized_reaction}
use Rattle.device_replies.proofs.Sized.{reaction_of_size}
use Rattle.device_single.proofs.Counts.{ping_keeps, read_keeps}
use Rattle.device_dispatch.proofs.Reactions.{by_number, heard_as, sync_read_keeps, bulk_read_keeps}
use Rattle.device_dispatch.proofs.react.Goals as goal
use Rattle.device_dispatch.proofs.react.Goals.{Start}

module _ (s : Start) where
  -- what an arm answers
  abbrev heard : Option Instruction → Reaction
  heard k = heard_as k s.args.all s.args.table.now s.args.registered.now s.args.params.now

  abbrev by_code : Reaction
  by_code = heard_instruction s.args.code s.args.all s.args.table.now s.args.registered.now s.args.params.now

  done : (k : Option Instruction) → k ≡ instruction_of s.args.code → (r : Told) (t : List ℕ) → r ≡ reacted_of (heard k)
      → t ≡ (heard k).effect.table → (r ≡ reacted_of by_code) × (t ≡ by_code.effect.table)
  done k e r t a b =
      let n = by_number s.args.all s.args.table.now s.args.registered.now s.args.params.now s.args.code k e in
      (a ∙ ap reacted_of n, b ∙ ap (λ (q : Reaction). q.effect.table) n)

  -- its function's answer is for a table of any size
  arm : (k i : Instruction) → i ≡ k → Some i ≡ instruction_of s.args.code → (r : Told) (t : List ℕ)
      → r ≡ reacted_of (sized_reaction s.args.table.now s.args.registered.now (heard (Some k)))
      → t ≡ (sized_reaction s.args.table.now s.args.registered.now (heard (Some k))).effect.table
      → (r ≡ reacted_of by_code) × (t ≡ by_code.effect.table)
  arm k i is e r t a b =
      let n = reaction_of_size s.args.table.now s.args.registered.now (heard (Some k)) s.requires in
      done (Some k) (ap (λ (x : Instruction). Some x) (sym is) ∙ e) r t (a ∙ ap reacted_of n) (b ∙ ap (λ (q : Reaction). q.effect.table) n)

  -- the table that a reading function leaves
  stays : (k : Instruction) → s.args.table.now ≡ (heard (Some k)).effect.table
      → s.args.table.now ≡ (sized_reaction s.args.table.now s.args.registered.now (heard (Some k))).effect.table
  stays k b =
      b ∙ ap (λ (q : Reaction). q.effect.table) (sym (reaction_of_size s.args.table.now s.args.registered.now (heard (Some k)) s.requires))

pub returns-in_default : goal.returns-in_default
returns-in_default c =
    let both = done (goal.at.returns-in_default c).Start None (sym c.in_default.is ∙ c.from_code.ensures) _ _ (c.own_only.ensures c.args.registered.now) refl in
    record { value = both.0; table_after = both.1 }

pub returns-in-Status : goal.returns-in-Status
returns-in-Status c =
    let both = done (goal.at.returns-in-Status c).Start (Some Status) (ap (λ (x : Instruction). Some x) (sym c.in-Status.is) ∙ c.in-Some.ensures) _ _
    (rw c.none.ensures at (c.unanswered.ensures c.args.registered.now)) refl in
    record { value = both.0; table_after = both.1 }

pub returns-in-Ping : goal.returns-in-Ping
returns-in-Ping c =
    let both = arm (goal.at.returns-in-Ping c).Start Ping _ c.in-Ping.is c.in-Some.ensures _ _ (c.heard_ping.ensures c.args.registered.now) (stays (goal.at.returns-in-Ping c).Start Ping (ping_keeps c.args.table.now c.args.registered.now c.args.all c.args.params.now)) in
    record { value = both.0; table_after = both.1 }

pub returns-in-Read : goal.returns-in-Read
returns-in-Read c =
    let both = arm (goal.at.returns-in-Read c).Start Read _ c.in-Read.is c.in-Some.ensures _ _ (c.heard_read.ensures c.args.registered.now) (stays (goal.at.returns-in-Read c).Start Read (read_keeps c.args.table.now c.args.registered.now c.args.all c.args.params.now)) in
    record { value = both.0; table_after = both.1 }

pub returns-in-Write : goal.returns-in-Write
returns-in-Write c =
    let both = arm (goal.at.returns-in-Write c).Start Write _ c.in-Write.is c.in-Some.ensures _ _ (c.heard_write.ensures.value c.args.registered.now) (c.heard_write.ensures.table_after c.args.registered.now) in
    record { value = both.0; table_after = both.1 }

pub returns-in-RegWrite : goal.returns-in-RegWrite
returns-in-RegWrite c =
    let both = arm (goal.at.returns-in-RegWrite c).Start RegWrite _ c.in-RegWrite.is c.in-Some.ensures _ _ (c.heard_reg_write.ensures.value) (c.heard_reg_write.ensures.table_after) in
    record { value = both.0; table_after = both.1 }

pub returns-in-Action : goal.returns-in-Action
returns-in-Action c =
    let both = arm (goal.at.returns-in-Action c).Start Action _ c.in-Action.is c.in-Some.ensures _ _ (c.heard_action.ensures.value) (c.heard_action.ensures.table_after) in
    record { value = both.0; table_after = both.1 }

pub returns-in-FactoryReset : goal.returns-in-FactoryReset
returns-in-FactoryReset c =
    let both = arm (goal.at.returns-in-FactoryReset c).Start FactoryReset _ c.in-FactoryReset.is c.in-Some.ensures _ _ (c.heard_factory_reset.ensures.value) (c.heard_factory_reset.ensures.table_after) in
    record { value = both.0; table_after = both.1 }

pub returns-in-Reboot : goal.returns-in-Reboot
returns-in-Reboot c =
    let both = arm (goal.at.returns-in-Reboot c).Start Reboot _ c.in-Reboot.is c.in-Some.ensures _ _ (c.heard_reboot.ensures.value) (c.heard_reboot.ensures.table_after) in
    record { value = both.0; table_after = both.1 }

pub returns-in-SyncRead : goal.returns-in-SyncRead
returns-in-SyncRead c =
    let both = arm (goal.at.returns-in-SyncRead c).Start SyncRead _ c.in-SyncRead.is c.in-Some.ensures _ _ (c.heard_sync_read.ensures c.args.registered.now) (stays (goal.at.returns-in-SyncRead c).Start SyncRead (sync_read_keeps c.args.table.now c.args.registered.now c.args.all c.args.params.now)) in
    record { value = both.0; table_after = both.1 }

pub returns-in-SyncWrite : goal.returns-in-SyncWrite
returns-in-SyncWrite c =
    let both = arm (goal.at.returns-in-SyncWrite c).Start SyncWrite _ c.in-SyncWrite.is c.in-Some.ensures _ _ (c.heard_sync_write.ensures.value c.args.registered.now) (c.heard_sync_write.ensures.table_after c.args.registered.now) in
    record { value = both.0; table_after = both.1 }

pub returns-in-BulkRead : goal.returns-in-BulkRead
returns-in-BulkRead c =
    let both = arm (goal.at.returns-in-BulkRead c).Start BulkRead _ c.in-BulkRead.is c.in-Some.ensures _ _ (c.heard_bulk_read.ensures c.args.registered.now) (stays (goal.at.returns-in-BulkRead c).Start BulkRead (bulk_read_keeps c.args.table.now c.args.registered.now c.args.all c.args.params.now)) in
    record { value = both.0; table_after = both.1 }

pub returns-in-BulkWrite : goal.returns-in-BulkWrite
returns-in-BulkWrite c =
    let both = arm (goal.at.returns-in-BulkWrite c).Start BulkWrite _ c.in-BulkWrite.is c.in-Some.ensures _ _ (c.heard_bulk_write.ensures.value c.args.registered.now) (c.heard_bulk_write.ensures.table_after c.args.registered.now) in
    record { value = both.0; table_after = both.1 }
