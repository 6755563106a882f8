use Rattle.std.specs.Prelude.{◌≡◌, Err, IsErrAnd, Ok, Result}
use Rattle.answers.specs.declared.Refusal.{Refusal}
use Rattle.device.specs.declared.Sent.{Sent}
use mathlib.Core.Path.{ap, ◌∙◌}
use native.Mathlib.Omega.{arith}
use Rattle.device_status.specs.Sending.{status_answer, status_out}
use Rattle.device_status.specs.declared.Reply.{Reply}
use Rattle.device.specs.Answers.{with_slot}
use Rattle.device_packet.specs.Exchange.{packet_refusal, packet_reply}
use Rattle.device_packet.proofs.Split.{SameAsOne, with_room, stopped, goes_on}
use Rattle.device_packet.proofs.answer.Goals as goal
use Rattle.device_packet.proofs.answer.Goals.{After-carry_out}

-- the two calls, where the reply buffer has room
both : (r : After-carry_out) → let a = r.args in
    SameAsOne a.table.now a.registered.now a.packet.now a.body.now a.out.now
both r =
    let a = r.args in
    with_room a.table.now a.registered.now a.packet.now a.body.now a.out.now (omega arith)

is_err : (r : Result Sent Refusal) (x : Refusal) → IsErrAnd r (λ y. y ≡ x) → r ≡ Err x
is_err (Ok sent) x e = absurd e
is_err (Err y) x e = ap (λ (z : Refusal). Err z) e

pub returns-in_err-reply : goal.returns-in_err-reply
returns-in_err-reply c =
    let e = c.carry_out.ensures in
    let s = both (goal.at.returns-in_err-reply c).After-carry_out in
    let a = c.args in
    let n = stopped (packet_refusal a.table.now a.registered.now a.packet.now a.body.now) _ c.in_err-reply.ensures.refused_value (packet_reply a.table.now a.registered.now a.packet.now a.body.now) a.out.now in
    record {
      answer_value = is_err c.from_residual-in_err-reply.result c.in_err-reply.field-0.0 c.from_residual-in_err-reply.ensures.1 ∙ n.0 ∙ s.same_answer_lem;
      registered_after = e.registered_after ∙ s.same_registered_lem;
      table_after = e.table_after ∙ s.same_table;
      body_after = e.body_after ∙ s.same_body;
      out_after = n.1 ∙ s.same_reply;
    }

pub returns : goal.returns
returns c =
    let a = c.args in
    let e = c.carry_out.ensures in
    let s = both (goal.at.returns c).After-carry_out in
    let refusal = packet_refusal a.table.now a.registered.now a.packet.now a.body.now in
    let n = goes_on refusal c.in_ok-reply.ensures.refused_value (packet_reply a.table.now a.registered.now a.packet.now a.body.now) a.out.now in
    let q = c.in_ok-reply.ensures.reply_value in
    record {
      answer_value = c.send.ensures.value ∙ ap (λ (x : Reply). with_slot (status_answer x a.out.now) x.slot) q ∙ n.0 ∙ s.same_answer_lem;
      registered_after = e.registered_after ∙ s.same_registered_lem;
      table_after = e.table_after ∙ s.same_table;
      body_after = e.body_after ∙ s.same_body;
      out_after = c.send.ensures.out_after ∙ ap (λ (x : Reply). status_out x a.out.now) q ∙ n.1 ∙ s.same_reply;
    }
