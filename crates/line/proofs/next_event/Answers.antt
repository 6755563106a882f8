use Rattle.std.proofs.Common.{sym, subst}
use Rattle.reader_plain.specs.Plain.{Within}
use Rattle.reader_plain.proofs.Plain.{within}
use Rattle.line.proofs.next_event.Goals as goal

pub returns : goal.returns
returns c = subst (Within c.args.segment.now c.args.from) (sym c.next_event.ensures) (within c.args.segment.now c.args.from)
