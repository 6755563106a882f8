use mathlib.Core.Path.{◌≡◌}
use Rattle.reader_plain.specs.Next.{next_event}
use Rattle.reader_plain.proofs.next_event.Given as goal

abbrev pub invariant-loop-offset : goal.invariant-loop-offset
invariant-loop-offset l = next_event l.segment l.from ≡ next_event l.segment l.offset
