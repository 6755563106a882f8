use mathlib.Core.Logic.{inl, inr}
use mathlib.Core.Path.{refl, ap, ◌∙◌}
use Rattle.lists.proofs.Bools.{both_ways}
use Rattle.device_status.specs.declared.Reply.{Reply}
use Rattle.device.specs.Device.{Carried}
use Rattle.device.specs.Results.{carried_of}
use Rattle.device.proofs.Replies.{to_device, to_another}
use borrow.Author.Tests.{eq-eqb}
use Rattle.device.proofs.dispatch.Goals as goal

pub returns-then-id-ne-BROADCAST_ID : goal.returns-then-id-ne-BROADCAST_ID
returns-then-id-ne-BROADCAST_ID c =
    let a = c.args in
    let e = to_another a.table.now a.registered.now a.heard a.id a.body.now c.if-not-own.true c.if-id-ne-BROADCAST_ID.true in
    record {
      value = ap (λ (x : Reply). record { reply = x; error = 0 }) c.silence.ensures ∙ ap carried_of e;
      registered_after = ap (λ (x : Carried). x.registered) e;
      table_after = ap (λ (x : Carried). x.table) e;
    }

pub returns : goal.returns
returns c =
    let a = c.args in
    let e = to_device a.table.now a.registered.now a.heard a.id a.body.now _ refl
    (λ f. elim c.else-not-own.either [ inl p ↦ p.1 | inr e ↦ absurd (both_ways _ (eq-eqb _ _ e) f) ]) in
    record {
      value = c.execute.ensures.value ∙ ap carried_of e;
      registered_after = c.execute.ensures.registered_after ∙ ap (λ (x : Carried). x.registered) e;
      table_after = c.execute.ensures.table_after ∙ ap (λ (x : Carried). x.table) e;
    }
