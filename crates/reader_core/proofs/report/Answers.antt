use mathlib.Core.Path.{refl}
use native.Mathlib.Omega.{arith}
use lib.ListN.{length}
use Prim.Native.Nat.{◌+◌, ◌≤◌}
use Rattle.reader_core.proofs.Deliveries.{on_packet, size_packet, reports_packet, reports_bad, reports_none}
use Rattle.reader_core.proofs.report.Goals as goal
use Rattle.reader_core.proofs.report.Goals.{In-Packet}

-- what the call requires, where a packet was seen
module _ (g : In-Packet) where
  on : g.in-Packet.at + g.in-Packet.count ≤ length g.args.src.now
  on = on_packet g.args.seen _ _ _ g.in-Packet.is g.requires.0

  size : g.in-Packet.count ≤ length g.args.packet.now
  size = size_packet g.args.seen _ _ _ g.in-Packet.is g.requires.1

pub overflow_add-at : goal.overflow_add-at
overflow_add-at c = omega (arith, on (goal.at.overflow_add-at c).In-Packet)

pub slice_bounds-place-end : goal.slice_bounds-place-end
slice_bounds-place-end c = on (goal.at.slice_bounds-place-end c).In-Packet

pub returns-in-Packet : goal.returns-in-Packet
returns-in-Packet c = let both = reports_packet c.args.protocol _ c.args.seen c.args.packet.now _ _ _ c.in-Packet.is (on (goal.at.returns-in-Packet c).In-Packet) (size (goal.at.returns-in-Packet c).In-Packet) c.place.ensures _ c.id_in-id.ensures in record { value = both.0; packet_after = both.1 }

pub returns-in-BadChecksum : goal.returns-in-BadChecksum
returns-in-BadChecksum c = let both = reports_bad c.args.protocol _ c.args.seen _ _ _ _ c.in-BadChecksum.is refl in record { value = both.0; packet_after = both.1 }

pub returns-in-Waiting : goal.returns-in-Waiting
returns-in-Waiting c = let both = reports_none c.args.protocol _ c.args.seen _ _ _ c.in-Waiting.is refl in record { value = both.0; packet_after = both.1 }
