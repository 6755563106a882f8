use mathlib.Core.Path.{ap, ◌∙◌}
use native.Mathlib.Omega.{arith}
use Prim.Native.Nat.{ℕ}
use lib.ListN.{get_or}
use Rattle.packet_protocols.proofs.Shapes.{id_at_lem}
use Rattle.reader_core.proofs.Answers.{id_short}
use Rattle.reader_core.proofs.id_in.Goals as goal

pub bounds-packet-id_offset : goal.bounds-packet-id_offset
bounds-packet-id_offset c = omega (arith, id_short c.args.protocol, c.id_offset.ensures, c.requires)

pub returns : goal.returns
returns c = ap (λ (k : ℕ). get_or c.args.packet.now k 0) c.id_offset.ensures ∙ id_at_lem c.args.protocol c.args.packet.now
