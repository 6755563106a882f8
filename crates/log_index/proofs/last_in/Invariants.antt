use Rattle.std.specs.Prelude.{None}
use mathlib.Core.Path.{◌≡◌}
use Rattle.log_index.specs.Events.{events_left}
use Rattle.log_index.proofs.Rounds.{last_by}
use Rattle.log_index.proofs.last_in.Given as goal

abbrev pub invariant-loop-event : goal.invariant-loop-event
invariant-loop-event l = last_by l.wanted None (events_left l.segment 0) ≡ last_by l.wanted l.last (events_left l.event-iterator.segment.now l.event-iterator.from)
