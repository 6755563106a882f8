use mathlib.Core.Path.{sym, ap, ◌∙◌}
use mathlib.Core.List.{◌∷◌}
use native.Mathlib.Omega.{arith}
use lib.ListN.{length}
use lib.Seq.{take_all}
use Rattle.lists.specs.Write.{overwritten}
use Rattle.stuffing.specs.Stuffing.{stuff}
use Rattle.stuffing.proofs.Laws.{stuff_same}
use Rattle.packet_encoder.proofs.Lists.{first_placed}
use Rattle.packet_encoder.proofs.write_body.Goals as goal

pub returns-then-n-params : goal.returns-then-n-params
returns-then-n-params c =
    let a = c.args in
    let body = a.instruction ∷ a.params.now in
    c.place.ensures
    ∙ first_placed a.out.now a.instruction a.params.now (omega (arith, c.requires.1, c.if-n-params.true)) c.requires.2
    ∙ ap (overwritten a.out.now) (sym (stuff_same body (omega (arith, c.requires.0, c.if-n-params.true))))

pub returns : goal.returns
returns c =
    let a = c.args in
    c.write_stuffed.ensures.out_after
    ∙ ap (overwritten a.out.now) (take_all (length a.out.now) (stuff (a.instruction ∷ a.params.now)) (omega (arith, c.requires.0, c.requires.1)))
