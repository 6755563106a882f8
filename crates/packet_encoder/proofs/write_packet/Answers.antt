use mathlib.Core.List.{◌∷◌}
use Prim.Native.Nat.{◌≤◌}
use native.Mathlib.Omega.{arith}
use lib.ListN.{length}
use Rattle.lists.proofs.Write.{tail_placed}
use Rattle.stuffing.specs.Stuffing.{stuff}
use Rattle.packet_encoder.specs.Writing.{packet_of}
use Rattle.packet_encoder.proofs.Writing.{begins, some_stuffed, packet_headed, packet_written}
use borrow.Author.Rules.{rules}
use Rattle.packet_encoder.proofs.write_packet.Goals as goal

pub write_body-requires : goal.write_body-requires
write_body-requires c =
    let f = c.write_front in
    let a = c.args in
    let s = some_stuffed a.instruction a.params.now in
    (search rules, search rules, begins a.id a.n a.instruction a.out.now f.new.out (omega (arith, c.requires.0, c.requires.2)) f.ensures)

pub write_checksum-requires : goal.write_checksum-requires
write_checksum-requires c =
    let b = stuff (c.args.instruction ∷ c.args.params.now) in
    let f = c.write_front in
    let h : 7 ≤ length f.new.out = search rules in (
      omega arith,
      search rules,
      packet_headed c.args.id c.args.n c.args.instruction b c.args.out.now f.new.out _ c.requires.0 c.requires.2 (some_stuffed c.args.instruction c.args.params.now) f.ensures
          (tail_placed 7 f.new.out _ b h c.write_body.ensures),
    )

pub returns : goal.returns
unfolding packet_of
returns c =
    let b = stuff (c.args.instruction ∷ c.args.params.now) in
    let f = c.write_front in
    let h : 7 ≤ length f.new.out = search rules in
    packet_written c.args.id c.args.n c.args.instruction b _ f.new.out _ c.requires.0 c.requires.2 (some_stuffed c.args.instruction c.args.params.now) f.ensures
    (tail_placed 7 f.new.out _ b h c.write_body.ensures) _ c.write_checksum.ensures
