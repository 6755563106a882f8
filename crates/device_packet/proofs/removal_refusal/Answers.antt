use mathlib.Core.Path.{◌≡◌, sym, ap, ◌∙◌}
use native.Mathlib.Omega.{arith}
use Rattle.stuffing.specs.Answers.{checked}
use Rattle.packet.specs.Packet.{body_of}
use Rattle.device_packet.proofs.Hearing.{bad_stuffing, no_room, fits}
use Rattle.device_packet.proofs.removal_refusal.Goals as goal
use Rattle.device_packet.proofs.removal_refusal.Goals.{After-check}

-- the test's answer, of the packet's body
stated : (k : After-check) → k.check.result ≡ checked (body_of k.args.packet.now)
stated k = k.check.ensures ∙ ap checked k.body.ensures

pub returns-in_default : goal.returns-in_default
returns-in_default c =
    let a = c.args in
    rw (bad_stuffing a.packet.now a.body.now (sym (stated (goal.at.returns-in_default c).After-check) ∙ c.in_default.is))

pub returns-then-body-n : goal.returns-then-body-n
returns-then-body-n c =
    let a = c.args in
    rw (no_room a.packet.now a.body.now _ (sym (stated (goal.at.returns-then-body-n c).After-check) ∙ c.in-Some.is) (omega arith))

pub returns : goal.returns
returns c =
    let a = c.args in
    rw (fits a.packet.now a.body.now _ (sym (stated (goal.at.returns c).After-check) ∙ c.in-Some.is) (omega arith))
