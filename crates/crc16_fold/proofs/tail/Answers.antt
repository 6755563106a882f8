use mathlib.Core.Path.{refl, ◌∙◌}
use mathlib.Core.List.{[], ◌∷◌}
use Prim.Native.Nat.{◌^◌, ◌<◌}
use native.Mathlib.Omega.{arith}
use lib.ListN.{get_or}
use borrow.Author.Rules.{rules}
use Rattle.crc.specs.Crc.{crc_from}
use Rattle.crc.proofs.Laws.{pass_byte, pass_end}
use Rattle.crc16_fold.specs.Fold.{register_of}
use Rattle.crc16_fold.proofs.Parts.{register_lt, taken_once}
use Rattle.crc16_fold.proofs.Words.{makes_byte}
use Rattle.crc16_fold.proofs.tail.Goals as goal

pub loop-byte-init : goal.loop-byte-init
loop-byte-init c = (search rules, (register_lt _ _, refl))

pub overflow_cast-b : goal.overflow_cast-b
overflow_cast-b c = omega (arith, c.type_inv.bytes c.loop-byte.byte-index)

pub byte_more-u-requires : goal.byte_more-u-requires
byte_more-u-requires c = let h = c.loop-byte in (h.invariant.0, (c.type_inv.bytes h.byte-index).fits)

pub loop-byte-preserved : goal.loop-byte-preserved
unfolding crc_from
loop-byte-preserved c =
    let h = c.loop-byte in
    let b = get_or c.args.bytes.now h.byte-index 0 in
    let small : b < 2 ^ 8 = (c.type_inv.bytes h.byte-index).fits in (
      c.byte_more-u.ensures.0,
      pass_byte _ _ h.byte-index (register_of h.u h.p) h.invariant.1 _ (omega arith)
          (taken_once h.u h.p c.byte_more-u.result b (b ∷ []) (makes_byte b small) c.byte_more-u.ensures.1),
    )

pub returns : goal.returns
returns c =
    let h = c.loop-byte in
    c.register_of.ensures ∙ pass_end _ _ h.byte-index _ h.invariant.1 c.loop-byte-test.false
