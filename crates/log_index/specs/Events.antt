-- The events of a segment that are left from an offset on, as the code has them.
use Rattle.std.specs.Prelude.{List, ℕ, map, drop}
use Rattle.reading.specs.Reading.{closed, read_from}
use Rattle.packet.specs.Verdict.{protocol2}
use Rattle.reader_plain.specs.declared.Event.{Event}
use Rattle.reader_plain.specs.Next.{next_of}

abbrev pub events_left : List ℕ → ℕ → List Event
events_left s from = map next_of (read_from protocol2 closed from (drop from s))
