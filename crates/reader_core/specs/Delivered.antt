-- What the parts of a call come to before the buffers' ends are cleared.
use Rattle.std.specs.Prelude.{None, Option, Some}
use Rattle.std.specs.Prelude.{◌≡◌, List, ℕ, ◌+◌, ◌≤◌, length, take, drop}
use Rattle.reading.specs.Reading.{Event, packet, bad_checksum}
use Rattle.reading.specs.Calls.{CallResult}
use Rattle.packet_protocols.specs.declared.Protocol.{Protocol}
use Rattle.packet_protocols.specs.Protocols.{id_in}
use Rattle.reader_core.specs.declared.Event.{Event as Event-as-Code}
use Rattle.reader_core.specs.declared.Event.TheVariants.{Packet, BadChecksum}
use Rattle.reader_core.specs.declared.Step.{Step}
use Rattle.reader_core.specs.Results.{packet_bytes}

-- the event, where a packet's ID is read from its buffer
abbrev pub event_with : ℕ → Option Event → Option Event-as-Code
event_with id (Some (packet w)) = Some (Packet id (length w))
event_with _ (Some (bad_checksum id)) = Some (BadChecksum id)
event_with _ None = None

-- the byte count of the event's packet, if it is one
abbrev pub size_in : Option Event-as-Code → ℕ
size_in (Some (Packet id n)) = n
size_in (Some (BadChecksum id)) = 0
size_in None = 0

-- the step says what the result says; the held bytes and the packet's bytes stand at the start of their buffers
pub record Delivered (p : Protocol) (r : CallResult) (step : Step) (held bytes : List ℕ) : Type 0 where
  pub taken_is : step.taken ≡ r.taken
  pub event_is : step.event ≡ event_with (id_in p bytes) r.answer
  pub count_is : step.held ≡ length r.held
  pub held_is : take step.held held ≡ r.held
  pub bytes_are : take (length (packet_bytes r.answer)) bytes ≡ packet_bytes r.answer

-- the bytes past those held, and past the packet's, are as they were
pub record Stayed (step : Step) (held₀ bytes₀ held bytes : List ℕ) : Type 0 where
  pub held_stays : drop step.held held ≡ drop step.held held₀
  pub bytes_stay : drop (size_in step.event) bytes ≡ drop (size_in step.event) bytes₀

-- So are, of a whole call on `count` held bytes, those past the bytes that were held and the bytes taken; and past the packet's, where
-- these are no more than can be held.
pub record Spared (most count : ℕ) (step : Step) (held₀ bytes₀ held bytes : List ℕ) : Type 0 where
  pub held_stays : drop (count + step.taken) held ≡ drop (count + step.taken) held₀
  pub bytes_stay : count + step.taken ≤ most → drop (size_in step.event) bytes ≡ drop (size_in step.event) bytes₀
