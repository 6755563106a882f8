use mathlib.Core.Path.{sym, ◌∙◌}
use Prim.Native.Nat.{◌/◌, ◌^◌}
use lib.Bits.{bit_xor}
use Rattle.crc16_fold.specs.Fold.{parity_part}
use Rattle.crc16_fold.proofs.Parts.{halved, one_bit}
use Rattle.crc16_fold.proofs.odd_part.Goals as goal

pub returns : goal.returns
unfolding parity_part
returns c =
    let p = c.args.p in
    let a = bit_xor p (p / 2 ^ 32) in
    let b = bit_xor a (a / 2 ^ 16) in
    let d = bit_xor b (b / 2 ^ 8) in
    let e = bit_xor d (d / 2 ^ 4) in
    let f = bit_xor e (e / 2 ^ 2) in
    sym (halved 32 p ∙ halved 16 a ∙ halved 8 b ∙ halved 4 d ∙ halved 2 e ∙ halved 1 f ∙ one_bit (bit_xor f (f / 2 ^ 1)))
