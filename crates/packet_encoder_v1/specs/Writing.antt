-- The packet of an ID and a body, as it is written: FF FF, ID, length, body, checksum.
use Rattle.std.specs.Prelude.{List, [], ◌∷◌, ◌++◌, ℕ, ◌+◌, length}
use Rattle.packet_v1.specs.Packet.{header, checksum_of}

-- the bytes that the checksum covers: the length counts the body and the checksum [O3 O5]
abbrev pub covered : ℕ → List ℕ → List ℕ
covered id body = id ∷ (length body + 1) ∷ body

-- [O1 O4 O5 O9]
unfoldable pub packet_of : ℕ → List ℕ → List ℕ
packet_of id body = header ++ (covered id body ++ checksum_of (covered id body) ∷ [])
