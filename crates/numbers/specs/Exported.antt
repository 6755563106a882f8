-- Answers with more than a count as C gets them. A count or a refusal is one number of these, as `answers` has it.
use Rattle.std.specs.Prelude.{Err, None, Ok, Option, Result, Some}
use Rattle.std.specs.Prelude.{Bool, true, false, cond, ℕ, ℤ, pos}
use Rattle.answers.specs.Refusals.{number_of}
use Rattle.answers.specs.Answers.{exported}
use Rattle.answers.specs.declared.Refusal.{Refusal}
use Rattle.reader_core.specs.declared.Step.{Step}
use Rattle.reader_core.specs.declared.Event.{Event}
use Rattle.reader_core.specs.declared.Event.TheVariants.{Packet, BadChecksum}
use Rattle.reader_plain.specs.declared.Event.{Event as Event-of-segment}
use Rattle.reader_plain.specs.declared.Event.TheVariants.{Packet as Segment-as-Packet, BadChecksum as Segment-as-BadChecksum}
use Rattle.device_instructions.specs.declared.RegisteredWrite.{RegisteredWrite}
use Rattle.numbers.specs.declared.StepNumbers.{StepNumbers}
use Rattle.numbers.specs.declared.EventNumbers.{EventNumbers}
use Rattle.line_log.specs.declared.Place.{Place}
use Rattle.numbers.specs.declared.DeviceNumbers.{DeviceNumbers}
use Rattle.numbers.specs.declared.CarriedNumbers.{CarriedNumbers}
use Rattle.device_status.specs.declared.Reply.{Reply}
use Rattle.numbers.specs.declared.FoundNumbers.{FoundNumbers}
use Rattle.log_salvage.specs.declared.Figures.{Figures}
use Rattle.numbers.specs.declared.SalvagedNumbers.{SalvagedNumbers}
use Rattle.device.specs.declared.Sent.{Sent}

-- what a feeding or gap call answers beside its buffers: the bytes taken, and by the event the packet's byte count, the kind (1 a
-- packet, 2 a bad checksum, 0 no event, or the number of the refusal) and the ID [N9 N11]
abbrev pub event_numbers : ℕ → Option Event → StepNumbers
event_numbers taken (Some (Packet id n)) = record { taken = taken; count = n; kind = 1; id = id }
event_numbers taken (Some (BadChecksum id)) = record { taken = taken; count = 0; kind = 2; id = id }
event_numbers taken None = record { taken = taken; count = 0; kind = 0; id = 0 }

-- [N9 N11]
abbrev pub answer_numbers : ℕ → Result (Option Event) Refusal → StepNumbers
answer_numbers taken (Ok event) = event_numbers taken event
answer_numbers taken (Err refusal) = record { taken = taken; count = 0; kind = number_of refusal; id = 0 }

-- [G5]
abbrev pub step_numbers : Result Step Refusal → StepNumbers
step_numbers (Ok s) = event_numbers s.taken s.event
step_numbers (Err refusal) = answer_numbers 0 (Err refusal)

-- what the plain reader answers: where the event begins, of a packet its byte count, where reading goes on, the kind (1 a packet, 2 a
-- bad checksum) and the ID; all 0 where there is no event [G5 N11 R3-R5]
abbrev pub next_numbers : Option Event-of-segment → EventNumbers
next_numbers (Some (Segment-as-Packet p n q id)) = record { offset = p; count = n; next = q; kind = 1; id = id }
next_numbers (Some (Segment-as-BadChecksum p q id)) = record { offset = p; count = 0; next = q; kind = 2; id = id }
next_numbers None = record { offset = 0; count = 0; next = 0; kind = 0; id = 0 }

-- the device's answer and the registered write that it leaves [G5]
abbrev pub device_numbers : Result Sent Refusal → RegisteredWrite → DeviceNumbers
device_numbers (Ok sent) w = record { count = exported (Ok sent.count); slot = sent.slot; registered = w }
device_numbers (Err refusal) w = record { count = exported (Err refusal); slot = 0; registered = w }

-- of a call that sends nothing: 0, or minus the refusal number [D51 G5 N11]
abbrev pub refusal_number : Result Sent Refusal → ℤ
refusal_number (Ok sent) = pos 0
refusal_number (Err refusal) = exported (Err refusal)

-- with the reply that waits and the registered write [D50 G5]
abbrev pub carried_numbers : Result Sent Refusal → Reply → RegisteredWrite → CarriedNumbers
carried_numbers answer reply w = record { refusal = refusal_number answer; reply = reply; registered = w }

-- the answer to a question about a log: 1 with segment and offset, 0 for none, or minus the refusal number [G5 I18 N11]
abbrev pub found_numbers : Result (Option Place) Refusal → FoundNumbers
found_numbers (Ok (Some p)) = record { found = pos 1; segment = p.segment; offset = p.offset }
found_numbers (Ok None) = record { found = pos 0; segment = 0; offset = 0 }
found_numbers (Err refusal) = record { found = exported (Err refusal); segment = 0; offset = 0 }

-- the answer of the salvage: the bytes written and the figures of the report, or minus the refusal number and 0 in each [G5 I31 N11]
abbrev pub salvaged_numbers : Result Figures Refusal → SalvagedNumbers
salvaged_numbers (Ok f) =
    record { count = exported (Ok f.count); dropped = f.dropped; index = f.index; leftover = f.leftover; header = cond f.header 1 0 }
salvaged_numbers (Err refusal) = record { count = exported (Err refusal); dropped = 0; index = 0; leftover = 0; header = 0 }

-- what the test of a plan answers: 1 or 0, or minus the refusal number [G5 N11 W9]
abbrev pub tested_number : Result Bool Refusal → ℤ
tested_number (Ok true) = pos 1
tested_number (Ok false) = pos 0
tested_number (Err refusal) = exported (Err refusal)
