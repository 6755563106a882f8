use mathlib.Core.Path.{sym, ap, ◌∙◌}
use mathlib.Core.List.{List}
use Prim.Native.Nat.{ℕ}
use lib.Bits.{bit_xor}
use lib.ListN.{replicate}
use Rattle.crc.specs.Crc.{crc_from}
use Rattle.crc16_flips.proofs.flipped.Goals as goal

-- the leaf's promise: the flips and then the bytes of 0 are both joined
pub returns : goal.returns
returns c =
    let a = c.args in
    let zeros : List ℕ = replicate a.after 0 in
    ap (bit_xor a.crc)
    (c.after_zeros.ensures
    ∙ ap (λ (sum : ℕ). crc_from sum zeros) c.update.ensures.value
    ∙ sym (c.update.ensures.checksum_laws.joined 0 a.flips.now zeros))
