-- What a feeding or gap call answers, by the result of the rules, and what it leaves of the bytes that are lent to it. `count` is
-- how many of the lent bytes are held; a count above what can be held is refused, and a refusal leaves everything as it was.
use Rattle.std.specs.Prelude.{Err, None, Ok, Option, Result, Some}
use Rattle.std.specs.Prelude.{cond, List, [], ◌++◌, ℕ, ◌+◌, ◌-◌, min, leb, length, drop, replicate}
use Rattle.answers.specs.declared.Refusal.{Refusal}
use Rattle.answers.specs.declared.Refusal.TheVariants.{BadReader}
use Rattle.lists.specs.Write.{overwritten, padded}
use Rattle.reading.specs.Reading.{Event, packet, bad_checksum}
use Rattle.reading.specs.Calls.{CallResult}
use Rattle.packet_protocols.specs.declared.Protocol.{Protocol}
use Rattle.packet_protocols.specs.Protocols.{rules_of, id_in}
use Rattle.reader_core.specs.declared.Event.{Event as Event-as-Code}
use Rattle.reader_core.specs.declared.Event.TheVariants.{Packet, BadChecksum}
use Rattle.reader_core.specs.declared.Step.{Step}

-- how many bytes can be held: one less than the longest packet has, 1,030 in Protocol 2.0 and 258 on the old boards [F2 O14]
abbrev pub most_held : Protocol → ℕ
most_held p = (rules_of p).longest - 1

-- a packet with its ID and its byte count, a bad checksum with its ID, or no event (of a gap call: nothing is left) [F9 K5]
abbrev pub event_for : Protocol → Option Event → Option Event-as-Code
event_for p (Some (packet w)) = Some (Packet (id_in p w) (length w))
event_for p (Some (bad_checksum id)) = Some (BadChecksum id)
event_for p None = None

-- the packet's bytes as received, none beside any other answer [F9 F10]
abbrev pub packet_bytes : Option Event → List ℕ
packet_bytes (Some (packet w)) = w
packet_bytes (Some (bad_checksum id)) = []
packet_bytes None = []

-- the answer: how many bytes were taken, how many are held then, and the event [F2 F16 N9 N11]
abbrev pub step_for : Protocol → ℕ → CallResult → Result Step Refusal
step_for p count r =
    cond (leb count (most_held p)) (Ok (record { taken = r.taken; held = length r.held; event = event_for p r.answer })) (Err BadReader)

-- the bytes that were lent for them: those held then, followed by 0 [F15 F16 N12]
abbrev pub held_for : Protocol → ℕ → List ℕ → CallResult → List ℕ
held_for p count old r = cond (leb count (most_held p)) (padded (most_held p) r.held) old

-- the packet buffer: the packet's bytes followed by 0, all 0 beside any other answer [F9 F10 F16 N12]
abbrev pub packet_for : Protocol → ℕ → List ℕ → CallResult → List ℕ
packet_for p count old r = cond (leb count (most_held p)) (padded (rules_of p).longest (packet_bytes r.answer)) old

-- What a lean call leaves, which clears no more than it has to. `count` bytes were held, and r.taken are taken: of that many bytes
-- those held then come first, followed by 0; the bytes further on stay.
abbrev pub lean_held : Protocol → ℕ → List ℕ → CallResult → List ℕ
lean_held p count old r = padded (min (most_held p) (count + r.taken)) r.held ++ drop (count + r.taken) old

-- The packet buffer: the packet's bytes, if any, at the start of what was there; or of 0, where more bytes were held and taken than
-- can be held.
abbrev pub lean_packet : Protocol → ℕ → List ℕ → CallResult → List ℕ
lean_packet p count old r =
    overwritten (cond (leb (count + r.taken) (most_held p)) old (replicate (rules_of p).longest 0)) (packet_bytes r.answer)

-- and a refusal leaves both as they were
abbrev pub lean_held_for : Protocol → ℕ → List ℕ → CallResult → List ℕ
lean_held_for p count old r = cond (leb count (most_held p)) (lean_held p count old r) old

abbrev pub lean_packet_for : Protocol → ℕ → List ℕ → CallResult → List ℕ
lean_packet_for p count old r = cond (leb count (most_held p)) (lean_packet p count old r) old
