use mathlib.Core.Path.{refl}
use Rattle.reader_core.proofs.Deliveries.{replied, stayed}
use Rattle.reader_core.proofs.deliver.Goals as goal

pub returns : goal.returns
returns c =
    let t = c.report-event.ensures in record {
      delivered = replied c.args.protocol c.args.held.now _ _ _ _ _ _ c.args.seen _ _ refl c.on_from-on.ensures c.requires.0
          c.requires.1 t.value t.packet_after.0 c.shift.ensures;
      stayed = stayed c.args.protocol c.args.held.now _ _ _ _ _ _ _ c.args.seen _ _ refl c.on_from-on.ensures c.requires.0
          c.requires.1 t.value t.packet_after.1 c.shift.ensures;
    }
