use mathlib.Core.Path.{◌≡◌, sym, ap, ◌∙◌}
use Prim.Native.Nat.{ℕ, ◌*◌, ◌/◌, ◌%◌, ◌^◌}
use native.Mathlib.Nat.{mod-eq_of_lt}
use native.Mathlib.Omega.{arith}
use lib.Bits.{bit_xor}
use Rattle.crc.specs.Crc.{polynomial}
use Rattle.crc.proofs.Linear.{shift_flat}
use Rattle.crc16_flips.proofs.shifted.Goals as goal

pub returns : goal.returns
returns c =
    let top : c.args.crc / 2 ^ 15 % 2 ≡ c.args.crc / 2 ^ 15 = mod-eq_of_lt (omega arith) in
    sym (shift_flat c.args.crc ∙ ap (λ (t : ℕ). bit_xor (c.args.crc * 2 % 2 ^ 16) (t * polynomial)) top)
