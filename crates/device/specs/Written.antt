-- The status that is written: a well-formed packet with the device's ID, of 21 bytes at the most, in a slot of at most 252.
use Rattle.std.specs.Prelude.{◌≡◌, List, ℕ, ◌≤◌, ◌<◌, take}
use Rattle.packet_front.specs.Front.{id_of}
use Rattle.packet.specs.Packet.{WellFormed}
use Rattle.device_dispatch.specs.Reactions.{own_id}
use Rattle.device.specs.Answers.{replied, carried_reply, call_answer, call_out}
use Rattle.device_instructions.specs.declared.RegisteredWrite.{RegisteredWrite}
use Rattle.device_dispatch.specs.declared.Heard.{Heard}

-- the n bytes are a status of the device whose ID, before the instruction, is `own` [D41]
pub record IsStatus (own n : ℕ) (bytes : List ℕ) : Type 0 where
  pub formed : WellFormed bytes
  pub own_id_lem : id_of bytes ≡ own
  pub short : n ≤ 21

-- after an answer of n bytes, if that is not silence, the first n of the reply buffer [D41]
abbrev pub StatusWritten : Type 0
StatusWritten =
    (table : List ℕ) (w : RegisteredWrite) (heard : Heard) (id : ℕ) (body out : List ℕ) (n slot : ℕ)
    → call_answer table w heard id body out ≡ replied n slot → 0 < n → IsStatus (own_id table) n (take n (call_out table w heard id body out))

-- the reply slot, of the call in one and of the reply that the first of two gives [D34 D35]
pub record SlotWithin : Type 0 where
  pub in_one_lem : (table : List ℕ) (w : RegisteredWrite) (heard : Heard) (id : ℕ) (body out : List ℕ) (n slot : ℕ)
      → call_answer table w heard id body out ≡ replied n slot → slot ≤ 252
  pub in_two_lem : (table : List ℕ) (w : RegisteredWrite) (heard : Heard) (id : ℕ) (body : List ℕ) → (carried_reply table w heard id body).slot ≤ 252
