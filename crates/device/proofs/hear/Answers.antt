use Rattle.std.specs.Prelude.{None}
use mathlib.Core.Path.{◌≡◌, sym, ap, ◌∙◌}
use Rattle.answers.proofs.Laws.{counted}
use Rattle.device_status.specs.Sending.{status_answer, status_out}
use Rattle.device_status.specs.declared.Reply.{Reply}
use Rattle.device.specs.Answers.{with_slot, call_refusal}
use Rattle.device.specs.declared.CarriedOut.{CarriedOut}
use Rattle.device.proofs.Calls.{accepted}
use Rattle.device.proofs.Split.{with_room}
use Rattle.device.proofs.hear.Goals as goal
use Rattle.device.proofs.hear.Goals.{In_ok-call_refusal}

passes : (t : In_ok-call_refusal) → call_refusal t.args.table.now t.args.registered.now t.args.out.now ≡ None
passes t = (counted (call_refusal t.args.table.now t.args.registered.now t.args.out.now) _ _ (sym t.in_ok-call_refusal.ensures)).0

pub dispatch-carried-requires : goal.dispatch-carried-requires
dispatch-carried-requires c = (accepted _ _ _ (passes (goal.at.dispatch-carried-requires c).In_ok-call_refusal)).sized

pub returns-clause-answer_value : goal.returns-clause-answer_value
returns-clause-answer_value c =
    let a = c.args in
    let p = passes (goal.at.returns-clause-answer_value c).In_ok-call_refusal in
    let same = with_room a.table.now a.registered.now a.heard a.id a.body.now a.out.now (accepted _ _ _ p).room in
    let reply = ap (λ (x : CarriedOut). x.reply) c.dispatch-carried.ensures.value in
    c.send.ensures.value
    ∙ ap (λ (x : Reply). with_slot (status_answer x a.out.now) x.slot) reply
    ∙ (rw (same.refusals ∙ p) at same.as_one.same_answer_lem)

pub returns-clause-out_after : goal.returns-clause-out_after
returns-clause-out_after c =
    let a = c.args in
    let p = passes (goal.at.returns-clause-out_after c).In_ok-call_refusal in
    let same = with_room a.table.now a.registered.now a.heard a.id a.body.now a.out.now (accepted _ _ _ p).room in
    let reply = ap (λ (x : CarriedOut). x.reply) c.dispatch-carried.ensures.value in
    c.send.ensures.out_after ∙ ap (λ (x : Reply). status_out x a.out.now) reply ∙ (rw (same.refusals ∙ p) at same.as_one.same_reply)
