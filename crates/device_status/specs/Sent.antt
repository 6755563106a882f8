-- The status that is written of any reply: a well-formed packet with the reply's ID, of 22 bytes at the most.
use Rattle.std.specs.Prelude.{Ok}
use Rattle.std.specs.Prelude.{◌≡◌, List, ℕ, ◌≤◌, ◌<◌, take}
use Rattle.packet_front.specs.Front.{id_of}
use Rattle.packet.specs.Packet.{WellFormed}
use Rattle.device_status.specs.Sending.{status_answer, status_out}
use Rattle.device_status.specs.declared.Reply.{Reply}

-- the n bytes are a status of the device with this ID [D53]
pub record IsStatusOf (id n : ℕ) (bytes : List ℕ) : Type 0 where
  pub formed : WellFormed bytes
  pub same_id : id_of bytes ≡ id
  pub short : n ≤ 22

-- after an answer of n bytes, if that is not silence, the first n of the buffer [D53]
abbrev pub ReplyWritten : Type 0
ReplyWritten =
    (r : Reply) (out : List ℕ) (n : ℕ) → status_answer r out ≡ Ok n → 0 < n → IsStatusOf r.id n (take n (status_out r out))
