-- The status: what a reply holds, and its packet.
use Rattle.std.specs.Prelude.{cond, List, [], ◌∷◌, ℕ, ◌+◌, ◌%◌, eqb, length, take, replicate}
use Rattle.lists.specs.Write.{padded}
use Rattle.packet_encoder.specs.Writing.{packet_of}
use Rattle.device_status.specs.declared.Reply.{Reply}

abbrev pub status : ℕ → ℕ → List ℕ → ℕ → Reply
status id error bytes slot =
    record { speaks = 1; id = id; error = error; count = length bytes; bytes = padded 8 bytes; slot = slot }

-- [D35]
abbrev pub silence : Reply
silence = record { speaks = 0; id = 0; error = 0; count = 0; bytes = replicate 8 0; slot = 0 }

-- bit 7, the alert, is set where the hardware error is not 0 [D29]
abbrev pub error_byte : ℕ → ℕ → ℕ
error_byte error hardware = cond (eqb hardware 0) error (error % 128 + 128)

-- instruction 55, error byte, data [D28]
abbrev pub status_body : Reply → List ℕ
status_body r = 0x55 ∷ r.error ∷ take r.count r.bytes

-- [D28]
abbrev pub status_packet : Reply → List ℕ
status_packet r = packet_of r.id (status_body r)

-- silence is no bytes; a mark other than 0 speaks [D35 D36 D53]
abbrev pub reply_bytes : Reply → List ℕ
reply_bytes r = cond (eqb r.speaks 0) [] (status_packet r)
