use mathlib.Core.Path.{◌≡◌, refl}
use mathlib.Core.List.{List}
use Prim.Native.Nat.{ℕ, ◌/◌, ◌%◌, ◌^◌, ◌<◌}
use native.Mathlib.Nat.{mod-lt}
use native.Mathlib.Omega.{arith}
use lib.Pow.{pow_pos}
use lib.Bits.{bit_xor}
use lib.ListN.{get_or}
use borrow.Author.Rules.{rules}
use Rattle.crc.specs.Crc.{reduce_if, shift, shifts, crc_byte}
use Rattle.crc.proofs.Lookup.{Rule, rule, index_lt, looked, looked_lt, by_halves}
use Rattle.crc.proofs.Laws.{checksum_laws, pass_byte, pass_end}
use Rattle.crc16_small.proofs.update.Goals as goal
use Rattle.crc16_small.proofs.update.Goals.{In-loop-byte}

-- the test of all 16 entries is computed here
pub loop-byte-init : goal.loop-byte-init
unfolding reduce_if shift shifts
loop-byte-init c = (rule 12 4 _ tt, (search rules, search rules))

pub overflow_cast-byte : goal.overflow_cast-byte
overflow_cast-byte c = omega (arith, c.type_inv.bytes c.loop-byte.byte-index)

-- half a byte, either one, makes an index with a register's four highest bits
module _ (c : In-loop-byte) where
  abbrev crc : ℕ
  crc = c.loop-byte.crc

  abbrev byte : ℕ
  byte = get_or c.args.bytes.now c.loop-byte.byte-index 0

  small : byte < 2 ^ 8
  small = (c.type_inv.bytes c.loop-byte.byte-index).fits

  low : byte % 16 < 2 ^ 4
  low = mod-lt byte (pow_pos 4)

  indices : (x : ℕ) → x < 2 ^ 16 → (bit_xor (x / 2 ^ 12) (byte / 16) < 2 ^ 4) × (bit_xor (x / 2 ^ 12) (byte % 16) < 2 ^ 4)
  indices x h = let b = small in (index_lt 12 4 refl x (byte / 16) h (omega arith), index_lt 12 4 refl x (byte % 16) h low)

  -- at the second look, after one with either half
  module _ (table : List ℕ) (r : Rule 12 4 table) where
    abbrev after : ℕ → Type 0
    after v =
        (bit_xor (looked table crc v / 2 ^ 12) (byte / 16) < 2 ^ 4) × (bit_xor (looked table crc v / 2 ^ 12) (byte % 16) < 2 ^ 4)

    second : after (byte / 16) × after (byte % 16)
    second =
        let b = small in
        let small-crc = c.loop-byte.invariant.1.0 in
        (indices _ (looked_lt table r crc small-crc (byte / 16) (omega arith)), indices _ (looked_lt table r crc small-crc (byte % 16) low))

    next : looked table (looked table crc (byte / 16)) (byte % 16) ≡ crc_byte crc byte
    next = by_halves table r crc byte c.loop-byte.invariant.1.0 small

pub overflow_cast-between : goal.overflow_cast-between
overflow_cast-between c = let i = indices (goal.at.overflow_cast-between c).In-loop-byte (crc (goal.at.overflow_cast-between c).In-loop-byte) c.loop-byte.invariant.1.0 in omega arith

pub offset_bounds-table-crc : goal.offset_bounds-table-crc
offset_bounds-table-crc c = let i = indices (goal.at.offset_bounds-table-crc c).In-loop-byte (crc (goal.at.offset_bounds-table-crc c).In-loop-byte) c.loop-byte.invariant.1.0 in omega arith

pub bounds-table-crc : goal.bounds-table-crc
bounds-table-crc c = let i = indices (goal.at.bounds-table-crc c).In-loop-byte (crc (goal.at.bounds-table-crc c).In-loop-byte) c.loop-byte.invariant.1.0 in omega arith

pub overflow_cast-crc : goal.overflow_cast-crc
overflow_cast-crc c = let i = second (goal.at.overflow_cast-crc c).In-loop-byte _ c.loop-byte.invariant.0 in omega arith

pub offset_bounds-table-between : goal.offset_bounds-table-between
offset_bounds-table-between c = let i = second (goal.at.offset_bounds-table-between c).In-loop-byte _ c.loop-byte.invariant.0 in omega arith

pub bounds-table-between : goal.bounds-table-between
bounds-table-between c = let i = second (goal.at.bounds-table-between c).In-loop-byte _ c.loop-byte.invariant.0 in omega arith

pub loop-byte-preserved : goal.loop-byte-preserved
loop-byte-preserved c =
    let h = c.loop-byte in (
      h.invariant.0,
      pass_byte _ _ h.byte-index h.crc h.invariant.1 _ c.loop-byte-test.true (next (goal.at.loop-byte-preserved c).In-loop-byte _ h.invariant.0),
    )

pub returns : goal.returns
returns c =
    let h = c.loop-byte in record {
      value = pass_end _ _ h.byte-index h.crc h.invariant.1 c.loop-byte-test.false;
      checksum_laws = checksum_laws;
    }
