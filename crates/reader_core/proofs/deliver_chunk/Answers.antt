use mathlib.Core.Path.{refl, ◌∙◌}
use native.Mathlib.Omega.{arith}
use lib.ListN.{length-take}
use Rattle.buffers.proofs.Parts.{placed_whole}
use Rattle.reader_core.proofs.Deliveries.{replied, stayed}
use Rattle.reader_core.proofs.deliver_chunk.Goals as goal

pub returns : goal.returns
returns c =
    let t = c.report-event.ensures in
    let q = c.place.ensures ∙ placed_whole c.args.held.now _ 0 (simp length-take (omega (arith, c.requires.2))) in record {
      delivered = replied c.args.protocol c.args.chunk.now _ _ _ _ _ _ c.args.seen _ _ refl c.on_from-on.ensures c.requires.0
          c.requires.1 t.value t.packet_after.0 q;
      stayed = stayed c.args.protocol c.args.chunk.now _ _ _ _ _ _ _ c.args.seen _ _ refl c.on_from-on.ensures c.requires.0
          c.requires.1 t.value t.packet_after.1 q;
    }
