-- The reply slot of whatever is heard is at most 252.
use Rattle.std.specs.Prelude.{None, Option, Some}
use mathlib.Core.Path.{◌≡◌, refl}
use mathlib.Core.Bool.{Bool, true, false, cond}
use mathlib.Core.List.{List, [], ◌∷◌}
use Prim.Native.Nat.{ℕ, ◌+◌, ◌≤◌}
use native.Mathlib.Omega.{arith}
use lib.Dec.{eqb}
use lib.ListN.{length}
use Rattle.device_parameters.specs.Entries.{search, entry_at}
use Rattle.device_parameters.specs.Parameters.{word_at, bulk_read, bulk_write, sync_search}
use Rattle.device_parameters.specs.declared.OwnEntry.{OwnEntry}
use Rattle.device_parameters.proofs.Searching.{found_whole, sync_early}
use Rattle.device_instructions.specs.Instructions.{refusing}
use Rattle.device_instructions.specs.declared.RegisteredWrite.{RegisteredWrite}
use Rattle.device_replies.specs.Replies.{own_id, ReplyRule, silent, speaks, own_only, Reaction, reacting}
use Rattle.device_sync.specs.Sync.{by_entry}
use Rattle.device_dispatch.specs.Reactions.{heard_instruction, reaction}
use Rattle.device_dispatch.specs.declared.Heard.{Heard}
use Rattle.device_dispatch.specs.declared.Heard.TheVariants.{Packet, BadChecksum}

abbrev pub Early : ReplyRule → Type 0
Early silent = Unit {0}
Early (speaks least slot) = slot ≤ 252

own_early : (all : Bool) (level : ℕ) → Early (own_only all level)
own_early true level = tt
own_early false level = omega arith

by_test : (b : Bool) (x y : Reaction) → Early x.replying → Early y.replying → Early (cond b x y).replying
by_test true x y f g = f
by_test false x y f g = g

module _ (table : List ℕ) (w : RegisteredWrite) (known : own_id table ≤ 252) where
  ping_early : (all right : Bool) → Early (cond all (cond right (speaks 0 (own_id table)) silent) (speaks 0 0))
  ping_early true true = known
  ping_early true false = tt
  ping_early false right = omega arith

  -- by the own entry, whose slot is known
  entry_early : (found : Option OwnEntry) (act : ℕ → ℕ → Reaction) → ((slot at : ℕ) → found ≡ entry_at slot at → Early (act slot at).replying)
      → Early (by_entry found table w act).replying
  entry_early (Some entry) act f = f entry.slot entry.offset refl
  entry_early None act f = tt

  list_early : (all : Bool) (found : Option OwnEntry) (act : ℕ → ℕ → Reaction) (replying : ReplyRule) → Early replying
      → ((slot at : ℕ) → found ≡ entry_at slot at → Early (act slot at).replying)
      → Early (cond all (by_entry found table w act) (reacting (refusing table w 0x02) replying)).replying
  list_early all found act replying r f = by_test all _ _ (entry_early found act f) r

  instruction_early : (i : ℕ) (all : Bool) (params : List ℕ) → Early (heard_instruction i all table w params).replying
  unfolding heard_instruction
  instruction_early i all params =
      by_test (eqb i 0x01) _ _ (ping_early all (eqb (length params) 0))
      (by_test (eqb i 0x02) _ _ (own_early all 1)
      (by_test (eqb i 0x03) _ _ (own_early all 2)
      (by_test (eqb i 0x04) _ _ (own_early all 2)
      (by_test (eqb i 0x05) _ _ (own_early all 2)
      (by_test (eqb i 0x06) _ _ (own_early all 2)
      (by_test (eqb i 0x08) _ _ (own_early all 2)
      (by_test (eqb i 0x55) _ _ tt
      (by_test (eqb i 0x82) _ _
      (list_early all (sync_search 1 (own_id table) params) _ (speaks 1 0) (omega arith) (λ slot at e. sync_early 1 (own_id table) params slot at e))
      (by_test (eqb i 0x83) _ _ (list_early all (sync_search (1 + word_at params 2) (own_id table) params) _ (speaks 2 0) (omega arith) (λ slot at e. tt))
      (by_test (eqb i 0x92) _ _
      (list_early all (search bulk_read (own_id table) params 0) _ (own_only all 1) (own_early all 1) (λ slot at e. (found_whole bulk_read (own_id table) params 0 slot at e).early))
      (by_test (eqb i 0x93) _ _ (list_early all (search bulk_write (own_id table) params 0) _ (own_only all 2) (own_early all 2) (λ slot at e. tt))
      (own_early all 2))))))))))))

  pub reaction_early : (heard : Heard) (all : Bool) (body : List ℕ) → Early (reaction heard all table w body).replying
  reaction_early BadChecksum all body = own_early all 2
  reaction_early Packet all [] = own_early all 2
  reaction_early Packet all (i ∷ params) = instruction_early i all params
