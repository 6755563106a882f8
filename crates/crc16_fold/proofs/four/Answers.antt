use native.Mathlib.Omega.{arith}
use Rattle.crc16_fold.proofs.Words.{makes_four}
use Rattle.crc16_fold.proofs.four.Goals as goal

pub returns : goal.returns
returns c =
    let x = c.args in
    let r = c.ranges in
    (omega arith, rw (c.from.ensures, c.from_be_bytes.ensures) (makes_four x.a x.b x.c x.d r.a.fits r.b.fits r.c.fits r.d.fits))
