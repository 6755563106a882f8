-- A reply has at most 8 data bytes, an error byte of at most 135, a slot of at most 252, and the own ID or 0.
use Rattle.std.specs.Prelude.{None, Option, Some}
use mathlib.Core.Path.{◌≡◌, refl, ap}
use mathlib.Core.Bool.{Bool, true, false, cond, true≢false}
use mathlib.Core.List.{List, []}
use Prim.Native.Nat.{ℕ, ◌+◌, ◌%◌, ◌≤◌}
use native.Mathlib.Omega.{arith}
use lib.Dec.{eqb, leb}
use lib.ListN.{length, take, drop, get_or, length-append, length-take}
use borrow.Author.Tests.{eq-eqb}
use Rattle.answers.specs.Refusals.{unless_refused}
use Rattle.table_registers.specs.Registers.{table_size}
use Rattle.table_rules.specs.Rules.{read_rule}
use Rattle.table_access.proofs.Theorems.{read_short}
use Rattle.device_instructions.proofs.Options.{each_option, each_action}
use Rattle.device_instructions.proofs.Errors.{read_number, write_number}
use Rattle.device_laws.proofs.Every.{every}
use Rattle.device_laws.proofs.Slots.{Early, reaction_early}
use Rattle.device.proofs.Replies.{to_whomever}
use Rattle.device_instructions.specs.Instructions.{Effect, ping, read, write, reg_write, action}
use Rattle.device_dispatch.specs.Reactions.{ReplyRule, silent, speaks, own_id, Reaction, reaction}
use Rattle.device.specs.Device.{hardware_error_in, reply_by, executed, carry_out}
use Rattle.device_status.specs.Status.{silence}
use Rattle.device_instructions.specs.declared.RegisteredWrite.{RegisteredWrite}
use Rattle.device_status.specs.declared.Reply.{Reply}
use Rattle.device_dispatch.specs.declared.Heard.{Heard}

pub record Sendable (own : ℕ) (r : Reply) : Type 0 where
  pub known : r.id ≤ 252
  pub short : r.count ≤ 8
  -- 7, with the alert 135
  pub numbered : r.error ≤ 135
  pub early : r.slot ≤ 252
  pub own_id_lem : eqb r.speaks 0 ≡ false → r.id ≡ own

pub record Small (e : Effect) : Type 0 where
  pub few : length e.bytes ≤ 8
  pub at_most_7 : e.error ≤ 7

none_small : (e : Effect) → e.bytes ≡ [] → e.error ≤ 7 → Small e
none_small e h n = record { few = omega (arith, ap length h); at_most_7 = n }

module _ (table : List ℕ) (w : RegisteredWrite) (sized : length table ≡ table_size) where
  ping_small : Small (ping table w)
  ping_small = record { few = simp (length-append, length-take) (omega arith); at_most_7 = omega arith }

  read_small : (address n : ℕ) → Small (read table w address n)
  unfolding read
  read_small address n = record { few = by_rule (read_rule address n) refl; at_most_7 = read_number address n }
    where
      by_rule : (rule : Option ℕ) → read_rule address n ≡ rule → length (unless_refused rule [] (take n (drop address table))) ≤ 8
      by_rule (Some error) e = omega arith
      by_rule None e =
          let s = read_short table address n (rw (eq-eqb (length table) table_size sized) e) in
          simp length-take (omega arith)

  write_small : (t : List ℕ) (v : RegisteredWrite) (address : ℕ) (bytes : List ℕ) → Small (write t v address bytes)
  unfolding write
  write_small t v address bytes = none_small _ refl (write_number t address bytes)

  reg_write_small : (address : ℕ) (bytes : List ℕ) → Small (reg_write table w address bytes)
  unfolding reg_write
  reg_write_small address bytes = none_small _ refl (write_number table address bytes)

  action_small : Small (action table w)
  action_small = each_action Small table w (none_small _ refl (omega arith)) (write_small _ _ _ _) (none_small _ refl (omega arith))

  pub reaction_small : (heard : Heard) (all : Bool) (body : List ℕ) → Small (reaction heard all table w body).effect
  reaction_small heard all body =
      every (λ acting. Small) table w (λ error le. none_small _ refl le) (none_small _ refl (omega arith)) ping_small read_small (write_small table w)
      reg_write_small action_small (none_small _ refl (omega arith))
      (each_option Small table w (λ keeps low high. none_small _ refl (omega arith)) (none_small _ refl (omega arith))) heard all body

  executed_small : (heard : Heard) (id : ℕ) (body : List ℕ) → Small (executed table w heard id body).effect
  executed_small heard id body =
      to_whomever table w heard id body (λ (r : Reaction). Small r.effect) (λ all. reaction_small heard all body) (none_small _ refl (omega arith))

  -- the reply can be sent
  module _ (own : own_id table ≤ 252) where
    pick_sendable : (b : Bool) (x y : Reply) → Sendable (own_id table) x → Sendable (own_id table) y → Sendable (own_id table) (cond b x y)
    pick_sendable true x y f g = f
    pick_sendable false x y f g = g

    alerted : (b : Bool) (error : ℕ) → error ≤ 7 → cond b error (error % 128 + 128) ≤ 135
    alerted true error l = omega arith
    alerted false error l = omega arith

    silence_sendable : Sendable (own_id table) silence
    silence_sendable =
        record { known = omega arith; short = omega arith; numbered = omega arith; early = omega arith; own_id_lem = λ e. absurd (true≢false e) }

    by_replying : (replying : ReplyRule) (e : Effect) → Early replying → Small e → Sendable (own_id table) (reply_by replying table e)
    by_replying silent e l s = silence_sendable
    by_replying (speaks least slot) e l s =
        pick_sendable (leb least (get_or table 68 0)) _ silence
        (record {
          known = own;
          short = s.few;
          numbered = alerted (eqb (hardware_error_in e.table) 0) e.error s.at_most_7;
          early = l;
          own_id_lem = λ h. refl;
        })
        silence_sendable

    executed_early : (heard : Heard) (id : ℕ) (body : List ℕ) → Early (executed table w heard id body).replying
    executed_early heard id body =
        to_whomever table w heard id body (λ (r : Reaction). Early r.replying) (λ all. reaction_early table w own heard all body) tt

    pub sendable : (heard : Heard) (id : ℕ) (body : List ℕ) → Sendable (own_id table) (carry_out table w heard id body).reply
    sendable heard id body =
        by_replying (executed table w heard id body).replying (executed table w heard id body).effect (executed_early heard id body)
        (executed_small heard id body)
