use mathlib.Core.Path.{◌≡◌, ap}
use mathlib.Core.List.{List}
use Prim.Native.Nat.{ℕ, ◌/◌, ◌^◌, ◌<◌}
use native.Mathlib.Omega.{arith}
use lib.Bits.{xor_zero_r}
use lib.ListN.{get_or}
use Rattle.crc.specs.Crc.{reduce_if, shift, shifts, crc_from}
use Rattle.crc.proofs.Lookup.{rule, entry_lt, kept, met, met_lt, by_byte}
use Rattle.crc.proofs.Laws.{checksum_laws, Passed, pass_byte, pass_end}
use Rattle.crc16.proofs.update.Goals as goal
use Rattle.crc16.proofs.update.Goals.{In-loop-byte}

-- a start is kept as itself and 0
from_start : (start : ℕ) (s : List ℕ) → start < 2 ^ 16 → Passed (crc_from start s) s 0 (kept start 0)
from_start start s h =
    let same : kept start 0 ≡ start = xor_zero_r start in
    (rw same h, ap (λ (x : ℕ). crc_from x s) same)

-- the test of all 256 entries is computed here
pub loop-byte-init : goal.loop-byte-init
unfolding reduce_if shift shifts
loop-byte-init c = (rule 8 8 _ tt, omega arith, from_start _ _ (omega arith))

pub overflow_cast-met : goal.overflow_cast-met
overflow_cast-met c = omega (arith, c.type_inv.bytes c.loop-byte.byte-index)

module _ (c : In-loop-byte) where
  abbrev byte : ℕ
  byte = get_or c.args.bytes.now c.loop-byte.byte-index 0

  small : byte < 2 ^ 8
  small = (c.type_inv.bytes c.loop-byte.byte-index).fits

  met_small : met c.loop-byte.last c.loop-byte.before byte < 2 ^ 16
  met_small = met_lt c.loop-byte.last c.loop-byte.before byte c.loop-byte.invariant.1

  index : met c.loop-byte.last c.loop-byte.before byte / 2 ^ 8 < 2 ^ 8
  index = omega (arith, met_small)

pub overflow_cast-last : goal.overflow_cast-last
overflow_cast-last c = omega (arith, index (goal.at.overflow_cast-last c).In-loop-byte)

pub offset_bounds-table-met : goal.offset_bounds-table-met
offset_bounds-table-met c = omega (arith, index (goal.at.offset_bounds-table-met c).In-loop-byte)

pub bounds-table-met : goal.bounds-table-met
bounds-table-met c = index (goal.at.bounds-table-met c).In-loop-byte

pub loop-byte-preserved : goal.loop-byte-preserved
loop-byte-preserved c =
    let l = c.loop-byte in (
      l.invariant.0,
      entry_lt _ l.invariant.0 _ (index (goal.at.loop-byte-preserved c).In-loop-byte),
      pass_byte _ _ l.byte-index (kept l.last l.before) l.invariant.2 _ c.loop-byte-test.true
          (by_byte l.last l.before (byte (goal.at.loop-byte-preserved c).In-loop-byte) l.invariant.1 _ l.invariant.0 (small (goal.at.loop-byte-preserved c).In-loop-byte)),
    )

pub returns : goal.returns
returns c =
    let h = c.loop-byte in record {
      value = pass_end _ _ h.byte-index (kept h.last h.before) h.invariant.2 c.loop-byte-test.false;
      checksum_laws = checksum_laws;
    }
