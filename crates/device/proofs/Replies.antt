-- The reply of a reaction, and to whom the device listens.
use Rattle.std.specs.Prelude.{Err, IfOk, Ok, Result}
use mathlib.Core.Path.{◌≡◌, refl, ap, ◌∙◌}
use mathlib.Core.Bool.{Bool, true, false, not, cond}
use mathlib.Core.List.{List}
use Prim.Native.Nat.{ℕ, ◌≤◌}
use native.Mathlib.Omega.{arith}
use lib.Dec.{eqb}
use lib.ListN.{get_or}
use borrow.Author.Tests.{eq-eqb, ne_eqb}
use Rattle.device_dispatch.specs.Reactions.{own_id, ReplyRule, silent, speaks, reaction, Reaction, reacting, unchanged}
use Rattle.device.specs.Device.{reply_by, Carried, carried, executed, carry_out}
use Rattle.device_dispatch.specs.declared.Heard.{Heard}
use Rattle.device_instructions.specs.Results.{Done, done_in, done_of}
use Rattle.device_instructions.specs.declared.ReplyData.{ReplyData}
use Rattle.device_instructions.specs.declared.Fault.{Fault}
use Rattle.device_replies.specs.Results.{reacted_by, reacted_of}
use Rattle.device.specs.Results.{number_in, reply_to}
use Rattle.device_status.specs.Status.{silence}
use Rattle.device_instructions.specs.declared.RegisteredWrite.{RegisteredWrite}

pub reply_of : (table : List ℕ) (q : Reaction)
    → reply_to q.effect.table (get_or table 7 0) (get_or table 68 0) (reacted_of q) ≡ reply_by q.replying table q.effect
reply_of table q = by_replying q.replying
  where
    by_replying : (replying : ReplyRule)
        → reply_to q.effect.table (get_or table 7 0) (get_or table 68 0) (reacted_by replying (done_of q.effect)) ≡ reply_by replying table q.effect
    by_replying silent = refl
    by_replying (speaks least slot) = refl

-- ---- an answer of the code

module _ (r : Result ReplyData Fault) (w : RegisteredWrite) (d : Done) (e : done_in r w ≡ d) where
  pub number_is : number_in r ≡ d.error
  number_is = by_result r ∙ ap (λ (x : Done). x.error) e
    where
      by_result : (r : Result ReplyData Fault) → number_in r ≡ (done_in r w).error
      by_result (Ok reply) = refl
      by_result (Err fault) = refl

  pub registered_is : w ≡ d.registered
  registered_is = by_result r ∙ ap (λ (x : Done). x.registered) e
    where
      by_result : (r : Result ReplyData Fault) → w ≡ (done_in r w).registered
      by_result (Ok reply) = refl
      by_result (Err fault) = refl

  pub few_in : d.count ≤ 8 → IfOk r (λ reply. reply.count ≤ 8)
  few_in l = by_result r (ap (λ (x : Done). x.count) e)
    where
      by_result : (r : Result ReplyData Fault) → (done_in r w).count ≡ d.count → IfOk r (λ reply. reply.count ≤ 8)
      by_result (Ok reply) c = omega arith
      by_result (Err fault) c = tt

-- ---- to whom the device listens

module _ (table : List ℕ) (w : RegisteredWrite) (heard : Heard) (id : ℕ) (body : List ℕ) where
  -- to the own ID, or to all devices
  pub to_device : (own : Bool) → eqb id (get_or table 7 0) ≡ own → (own ≡ false → id ≡ 254)
      → carried table (reaction heard (not own) table w body) ≡ carry_out table w heard id body
  unfolding executed
  to_device true e all = rw e
  to_device false e all = rw (e, eq-eqb id 254 (all refl))

  pub to_another : (id ≡ get_or table 7 0 → ⊥) → (id ≡ 254 → ⊥)
      → ◌≡◌ {A = Carried} (record { table = table; registered = w; reply = silence; error = 0 }) (carry_out table w heard id body)
  unfolding executed
  to_another n m = rw (ne_eqb id (get_or table 7 0) n, ne_eqb id 254 m)

  -- what holds of each of the three holds of what is done
  pub to_whomever : (P : Reaction → Type 0) → ((all : Bool) → P (reaction heard all table w body)) → P (reacting (unchanged table w) silent)
      → P (executed table w heard id body)
  unfolding executed
  to_whomever P known other = pick (eqb id (own_id table)) _ _ (known false) (pick (eqb id 254) _ _ (known true) other)
    where
      pick : (b : Bool) (x y : Reaction) → P x → P y → P (cond b x y)
      pick true x y f g = f
      pick false x y f g = g
