-- Action and the limits.
use Rattle.std.specs.Prelude.{None}
use mathlib.Core.Path.{◌≡◌, refl, sym, ap, ◌∙◌}
use mathlib.Core.Bool.{Bool, true, false, cond, not, ◌||◌, false≢true}
use mathlib.Core.List.{List}
use Prim.Native.Nat.{ℕ}
use lib.Dec.{eqb}
use lib.ListN.{length}
use borrow.Author.Tests.{eqb-false}
use Rattle.lists.proofs.Bools.{and_left, and_right}
use Rattle.table_registers.specs.Registers.{table_size}
use Rattle.device_instructions.specs.Registered.{LimitsOf}
use Rattle.device_instructions.specs.Instructions.{Effect, action}
use Rattle.device_instructions.proofs.Acting.{limits_of_lem, not_limits, not_acted, acts_on_same}
use Rattle.device_dispatch.specs.Reactions.{own_id, reacting, unchanged, silent, reaction}
use Rattle.device_laws.specs.Refused.{is_action, acts_on}
use Rattle.device_laws.proofs.Theorems.{acting}
use Rattle.device.specs.Device.{executed}
use Rattle.device.specs.Answers.{replied, call_refusal, call_answer}
use Rattle.device.specs.ActionLimits.{acts_here, DroppedByLimits, ActionNeedsSameLimits}
use Rattle.device.proofs.Calls.{accepted}
use Rattle.device.proofs.Demand1.{sent_by}
use Rattle.device_instructions.specs.declared.RegisteredWrite.{RegisteredWrite}
use Rattle.device_dispatch.specs.declared.Heard.{Heard}

module _ (table : List ℕ) (w : RegisteredWrite) (heard : Heard) (id : ℕ) (body : List ℕ) (here : acts_here table w heard id body ≡ true) where
  addressed : eqb id (own_id table) || eqb id 254 ≡ true
  addressed = and_left (eqb id (own_id table) || eqb id 254) (acts_on w heard body) here

  finds : acts_on w heard body ≡ true
  finds = and_right (eqb id (own_id table) || eqb id 254) (acts_on w heard body) here

  is_action_lem : is_action heard body ≡ true
  is_action_lem = and_left (is_action heard body) (not (eqb w.count 0)) finds

  found : w.count ≡ 0 → ⊥
  found = eqb-false w.count 0 (not_true_false (eqb w.count 0) (and_right (is_action heard body) (not (eqb w.count 0)) finds))
    where
      not_true_false : (b : Bool) → not b ≡ true → b ≡ false
      not_true_false true e = absurd (false≢true e)
      not_true_false false e = refl

  -- what is done is what Action does
  acts : (executed table w heard id body).effect ≡ action table w
  unfolding executed
  acts = by_id (eqb id (own_id table)) (eqb id 254) addressed
    where
      by_id : (own all : Bool) → own || all ≡ true
          → (cond own (reaction heard false table w body) (cond all (reaction heard true table w body) (reacting (unchanged table w) silent))).effect ≡ action table w
      by_id true all e = acting table w heard false body is_action_lem
      by_id false true e = acting table w heard true body is_action_lem
      by_id false false e = absurd (false≢true e)

  module _ (out : List ℕ) (n slot : ℕ) (e : call_answer table w heard id body out ≡ replied n slot) where
    passes : call_refusal table w out ≡ None
    passes = (sent_by (call_refusal table w out) _ n slot e).0

    sized : length table ≡ table_size
    sized = (accepted table w out passes).sized

    done : (executed table w heard id body).effect.error ≡ 0 → LimitsOf table w
    done z = limits_of_lem table w (acts_on_same table w sized found (ap (λ (e : Effect). e.error) (sym acts) ∙ z))

    changed : ¬ LimitsOf table w → DroppedByLimits table w heard id body out
    changed n =
        let q = acts ∙ sym (not_acted table w sized found (not_limits table w n)) in
        record {
          number = ap (λ (e : Effect). e.error) q;
          left_table = rw passes (ap (λ (e : Effect). e.table) q);
          left_registered = rw passes (ap (λ (e : Effect). e.registered) q);
        }

pub action_needs_same_limits : ActionNeedsSameLimits
action_needs_same_limits =
    record {
      done = λ table w heard id body out n slot e here. done table w heard id body here out n slot e;
      changed = λ table w heard id body out n slot e here. changed table w heard id body here out n slot e;
    }
