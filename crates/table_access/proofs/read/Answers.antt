use Rattle.table_registers.proofs.Permits.{every_inside, every_short}
use Rattle.table_rules.specs.Rules.{read_rule}
use mathlib.Core.Path.{sym, ◌∙◌}
use native.Mathlib.Omega.{arith}
use borrow.Author.Tests.{eq-eqb, lt-ltb, le-ltb}
use Rattle.table_access.proofs.read.Goals as goal

pub bytes_from-requires : goal.bytes_from-requires
bytes_from-requires c =
    let a = c.args in
    let l = c.if-table-ne-TABLE_BYTES.false in
    let good = sym c.every_byte.ensures ∙ c.if-not-every_byte.false in
    let p = every_inside 1 a.address a.count (omega arith) good (omega arith) in
    (omega arith, every_short 1 a.address a.count (omega arith) good)

pub returns-then-count-eq0 : goal.returns-then-count-eq0
unfolding read_rule
returns-then-count-eq0 c =
    record { outcome_value = rw (eq-eqb _ _ c.if-table-ne-TABLE_BYTES.false, le-ltb 0 c.args.count (omega arith)); bytes_value = tt }

pub returns-then-not-every_byte : goal.returns-then-not-every_byte
unfolding read_rule
returns-then-not-every_byte c =
    let bad = sym c.every_byte.ensures ∙ c.if-not-every_byte.true in
    record { outcome_value = rw (eq-eqb _ _ c.if-table-ne-TABLE_BYTES.false, lt-ltb 0 c.args.count (omega arith), bad); bytes_value = tt }

pub returns : goal.returns
unfolding read_rule
returns c =
    let e = eq-eqb _ _ c.if-table-ne-TABLE_BYTES.false in
    let z = lt-ltb 0 c.args.count (omega arith) in
    let good = sym c.every_byte.ensures ∙ c.if-not-every_byte.false in
    record {
      outcome_value = rw (e, z, good);
      bytes_value = rw (e, z, good) c.bytes_from.ensures;
    }
