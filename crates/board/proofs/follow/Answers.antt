use Rattle.std.specs.Prelude.{Option}
use Rattle.reader_core.specs.declared.Event.{Event}
use Prim.Native.Nat.{ℕ}
use mathlib.Core.List.{List}
use mathlib.Core.Path.{sym, ap, subst, ◌∙◌}
use Rattle.device.specs.Device.{carry_out}
use Rattle.board.specs.declared.Came.{Came}
use Rattle.board.specs.Board.{carried_if_any}
use Rattle.board.specs.Inside.{event_by, Fits, body_to, came_of, step_after}
use Rattle.board.proofs.ByAnswer.{told, passed_by, carried_by}
use Rattle.board.proofs.follow.Goals as goal
use Rattle.board.proofs.follow.Goals.{then-is_for, else-is_for}

pub returns-clause-value : goal.returns-clause-value
returns-clause-value c =
    let a = c.args in
    let x = c.receive-event.result in
    let e = sym c.receive-event.ensures.value in
    let p = c.receive-event.ensures.packet_after in
    let fits = subst (λ (v : Option Event). Fits v a.packet.now) c.in-Some.is c.requires in
    let back = sym c.in-Some.is in
    elim c.if-is_for.branch [
      | then-is_for w ↦
          ap (λ (k : Came). told a.step.taken x k)
          (w.came-is ∙ w.carry_out-came.ensures.value ∙ ap (λ (s : List ℕ). came_of a.table.now a.registered x.heard x.id (body_to x.end s)) p)
          ∙ (carried_by a.table.now a.registered a.step.taken a.packet.now c.in-Some.event fits x e (sym w.if-is_for.ensures)).0
          ∙ ap (λ (v : Option Event). step_after a.table.now a.registered a.step.taken (event_by v a.packet.now)) back
      | else-is_for w ↦
          ap (λ (k : Came). told a.step.taken x k) (w.came-is ∙ w.passed-came.ensures)
          ∙ (passed_by a.table.now a.registered a.step.taken a.packet.now c.in-Some.event fits x e (sym w.if-is_for.ensures)).0
          ∙ ap (λ (v : Option Event). step_after a.table.now a.registered a.step.taken (event_by v a.packet.now)) back
    ]

pub returns-clause-table_after : goal.returns-clause-table_after
returns-clause-table_after c =
    let a = c.args in
    let x = c.receive-event.result in
    let e = sym c.receive-event.ensures.value in
    let p = c.receive-event.ensures.packet_after in
    let fits = subst (λ (v : Option Event). Fits v a.packet.now) c.in-Some.is c.requires in
    let back = sym c.in-Some.is in
    elim c.if-is_for.branch [
      | then-is_for w ↦
          w.table-is ∙ w.carry_out-came.ensures.table_after
          ∙ ap (λ (s : List ℕ). (carry_out a.table.now a.registered x.heard x.id (body_to x.end s)).table) p
          ∙ (carried_by a.table.now a.registered a.step.taken a.packet.now c.in-Some.event fits x e (sym w.if-is_for.ensures)).1
          ∙ ap (λ (v : Option Event). (carried_if_any a.table.now a.registered (event_by v a.packet.now)).table) back
      | else-is_for w ↦
          w.table-is ∙ (passed_by a.table.now a.registered a.step.taken a.packet.now c.in-Some.event fits x e (sym w.if-is_for.ensures)).1
          ∙ ap (λ (v : Option Event). (carried_if_any a.table.now a.registered (event_by v a.packet.now)).table) back
    ]
