use mathlib.Core.Path.{sym, ap, ◌∙◌}
use mathlib.Core.List.{◌++◌}
use Prim.Native.Nat.{ℕ}
use native.Mathlib.Omega.{arith}
use Rattle.crc.specs.Crc.{crc_from}
use Rattle.crc.proofs.Laws.{checksum_laws}
use Rattle.crc16_fold.specs.Fold.{register_of}
use Rattle.crc16_fold.proofs.Parts.{stands_for_itself, taken_twice}
use Rattle.crc16_fold.proofs.Words.{first_four, last_four, eight_before}
use Rattle.crc16_fold.proofs.update.Goals as goal

pub loop-eight-init : goal.loop-eight-init
loop-eight-init c =
    let a = c.args in
    (omega arith, ap (λ (x : ℕ). crc_from x a.bytes.now) (stands_for_itself a.start c.ranges.start.fits))

pub loop-eight-preserved : goal.loop-eight-preserved
loop-eight-preserved c =
    let h = c.loop-eight in
    let before = register_of h.u h.p in
    let high = c.four-high in
    let low = c.four-low in
    let more = c.in-Some.more.now in
    let e = c.in-Some.ensures.cases in
    let a = first_four c.in-Some.eight.now 0 in
    let b = last_four c.in-Some.eight.now 0 in (
      c.eight_more-u.ensures.0,
      ap (λ (x : ℕ). crc_from x more)
          (taken_twice h.u h.p c.eight_more-u.result high.result low.result a b high.ensures.1 low.ensures.1 c.eight_more-u.ensures.1)
          ∙ sym (checksum_laws.joined before (a ++ b) more)
          ∙ ap (crc_from before) (sym (eight_before h.rest.now c.in-Some.eight.now more e.0 e.1 e.2))
          ∙ h.invariant.1,
    )

pub returns : goal.returns
returns c =
    record {
      value = c.tail.ensures ∙ c.loop-eight.invariant.1;
      checksum_laws = checksum_laws;
    }
