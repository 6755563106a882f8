-- Two published checksums, computed: they hold the definition in place where the laws would suit another polynomial too.
use mathlib.Core.Path.{◌≡◌, refl}
use mathlib.Core.List.{[], ◌∷◌}
use Rattle.crc.specs.Crc.{reduce_if, shift, shifts, crc_byte, crc_from}

-- Ping to 1 ends 19 4E
pub ping_to_1_lem : crc_from 0 (0xFF ∷ 0xFF ∷ 0xFD ∷ 0x00 ∷ 0x01 ∷ 0x03 ∷ 0x00 ∷ 0x01 ∷ []) ≡ 0x4E19
unfolding reduce_if shift shifts crc_byte crc_from
ping_to_1_lem = refl

-- Ping to all ends 31 42
pub ping_to_all_lem : crc_from 0 (0xFF ∷ 0xFF ∷ 0xFD ∷ 0x00 ∷ 0xFE ∷ 0x03 ∷ 0x00 ∷ 0x01 ∷ []) ≡ 0x4231
unfolding reduce_if shift shifts crc_byte crc_from
ping_to_all_lem = refl
