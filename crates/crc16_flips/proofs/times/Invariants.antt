use mathlib.Core.Path.{◌≡◌}
use Prim.Native.Nat.{◌-◌, ◌^◌, ◌<◌}
use lib.Bits.{bit_xor}
use Rattle.crc.specs.Product.{product}
use Rattle.crc16_flips.proofs.times.Given as goal

abbrev pub invariant-loop : goal.invariant-loop
invariant-loop l = (l.x < 2 ^ 16) × (bit_xor l.sum (product (16 - l.counter) l.x l.y) ≡ product 16 l.a l.b)
