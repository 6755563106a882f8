use Rattle.std.proofs.Common.{get_or, arith}
use Rattle.std.proofs.lemmas.Grind.{common_steps}
use Rattle.packet_front.specs.Header.{headed}
use Rattle.packet_front.proofs.Header.{as_number}
use Rattle.packet_front.proofs.has_header.Goals as goal

pub returns-then-s-ge4 : goal.returns-then-s-ge4
unfolding headed
returns-then-s-ge4 c =
    let s = c.args.s.now in
    let b = c.type_inv.s in
    let number = as_number (get_or s 0 0) (get_or s 1 0) (get_or s 2 0) (get_or s 3 0) (omega (arith, (b 0).fits)) (omega (arith, (b 1).fits)) (omega (arith, (b 2).fits)) (omega (arith, (b 3).fits)) in
    grind (arith, common_steps, number)

pub returns-else-s-ge4 : goal.returns-else-s-ge4
unfolding headed
returns-else-s-ge4 c = grind (arith, common_steps)
