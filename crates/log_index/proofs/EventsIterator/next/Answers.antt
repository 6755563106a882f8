use Rattle.std.specs.Prelude.{Some}
use mathlib.Core.Path.{sym, ap, ◌∙◌}
use native.Mathlib.Omega.{arith}
use lib.ListN.{length}
use Rattle.log_index.proofs.Rounds.{none_left, one_left}
use Rattle.log_index.proofs.EventsIterator.next.Goals as goal
use Rattle.log_index.proofs.EventsIterator.next.Goals.{in-Packet, in-BadChecksum}

pub returns-in_err-event-clause-steps : goal.returns-in_err-event-clause-steps
returns-in_err-event-clause-steps c = let e = none_left _ _ (sym c.in_err-event.ensures) in rw c.from_residual.ensures (e, e)

pub returns-clause-steps : goal.returns-clause-steps
returns-clause-steps c =
    elim c.match-event.branch [
      | in-Packet w ↦ rw (w.event-is, w.self-is) (one_left _ _ _ (sym c.in_ok-event.ensures ∙ ap Some w.in-Packet.is))
      | in-BadChecksum w ↦ rw (w.event-is, w.self-is) (one_left _ _ _ (sym c.in_ok-event.ensures ∙ ap Some w.in-BadChecksum.is))
    ]

pub returns-clause-goes : goal.returns-clause-goes
returns-clause-goes c =
    let n = ap length (returns-clause-steps c) in
    record { on = λ _. (tt, tt, omega (arith, n)); keeps = tt; rests = λ _. tt }
