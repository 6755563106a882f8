-- The next event of a whole segment at an offset or behind it, as the plain reader tells it.
use Rattle.std.specs.Prelude.{None, Option, Some}
use Rattle.std.specs.Prelude.{List, [], ◌∷◌, ℕ, ◌+◌, length, drop}
use Rattle.reading.specs.Reading.{packet, bad_checksum, EventAt, closed, read_from}
use Rattle.packet_front.specs.Front.{id_of}
use Rattle.packet.specs.Verdict.{protocol2}
use Rattle.reader_plain.specs.declared.Event.{Event}
use Rattle.reader_plain.specs.declared.Event.TheVariants.{Packet, BadChecksum}

-- an event as it is told: where it begins, of a packet how many bytes it has, where reading goes on, and the ID [R3 R4 V7]
abbrev pub next_of : EventAt → Event
next_of (p, packet w) = Packet p (length w) (p + length w) (id_of w)
next_of (p, bad_checksum id) = BadChecksum p (p + 1) id

-- [R2 R5]
abbrev pub first_of : List EventAt → Option Event
first_of [] = None
first_of (f ∷ fs) = Some (next_of f)

-- the first event of the reading that begins at this offset of the segment; at its end and past it there is none [R1 R2 R5]
unfoldable pub next_event : List ℕ → ℕ → Option Event
next_event s from = first_of (read_from protocol2 closed from (drop from s))
