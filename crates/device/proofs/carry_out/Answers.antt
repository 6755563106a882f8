use mathlib.Core.Path.{sym}
use Rattle.answers.proofs.Laws.{counted}
use Rattle.device.specs.Answers.{state_refusal}
use Rattle.device.proofs.Calls.{state_accepted}
use Rattle.device.proofs.carry_out.Goals as goal

pub dispatch-requires : goal.dispatch-requires
dispatch-requires c =
    let a = c.args in
    (state_accepted _ _ (counted (state_refusal a.table.now a.registered.now) _ _ (sym c.in_ok-state_refusal.ensures)).0).sized
