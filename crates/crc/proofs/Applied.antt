use mathlib.Core.Path.{refl}
use mathlib.Core.List.{[], ◌∷◌}
use Rattle.crc.specs.Crc.{reduce_if, shift, shifts, crc_byte, crc_from}
use Rattle.crc.specs.Laws.{xor_bytes}
use Rattle.crc.specs.Applied.{ChecksumLawsApplied, FlippedApplied}

pub checksum_laws_applied : ChecksumLawsApplied
unfolding xor_bytes reduce_if shift shifts crc_byte crc_from
checksum_laws_applied t = (
  t.joined 0x00FF (1 ∷ 2 ∷ []) (3 ∷ 4 ∷ []),
  t.adds 0x00FF 0x0F0F (5 ∷ 8 ∷ []) (4 ∷ 10 ∷ []) refl,
  t.joined 0x00FF [] [],
  t.adds 0x00FF 0x0F0F [] [] refl,
)

pub flipped_applied : FlippedApplied
unfolding xor_bytes crc_from
flipped_applied t = (t 0x00FF (1 ∷ []) (7 ∷ []) (3 ∷ []) (5 ∷ []) refl, t 0x00FF [] [] [] [] refl)
