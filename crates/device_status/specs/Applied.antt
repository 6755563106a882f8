-- What is promised of the status of any reply, applied to the longest: 22 bytes, three of them stuffing.
use Rattle.std.specs.Prelude.{◌≡◌, List, [], ◌∷◌, ℕ, ◌≤◌, take, replicate}
use Rattle.packet_front.specs.Front.{id_of}
use Rattle.packet.specs.Packet.{WellFormed}
use Rattle.device_status.specs.Status.{status}
use Rattle.device_status.specs.Sending.{status_out}
use Rattle.device_status.specs.Sent.{ReplyWritten}
use Rattle.device_status.specs.declared.Reply.{Reply}

-- of the last device, with a buffer that just suffices
abbrev pub longest : Reply
longest = status 252 0xFF (0xFF ∷ 0xFD ∷ 0xFF ∷ 0xFF ∷ 0xFD ∷ 0xFF ∷ 0xFF ∷ 0xFD ∷ []) 7

abbrev pub sent : List ℕ
sent = take 22 (status_out longest (replicate 32 0xAA))

abbrev pub ReplyWrittenApplied : Type 0
ReplyWrittenApplied = ReplyWritten → WellFormed sent × (id_of sent ≡ 252) × (22 ≤ 22)
