use mathlib.Core.Path.{◌≡◌}
use Rattle.log_index.specs.Events.{events_left}
use Rattle.log_index.proofs.Rounds.{marked_by}
use Rattle.log_index.proofs.mark.Given as goal

abbrev pub invariant-loop-event : goal.invariant-loop-event
invariant-loop-event l = marked_by l.number l.initial.index (events_left l.segment 0) ≡ marked_by l.number l.index (events_left l.event-iterator.segment.now l.event-iterator.from)
