use mathlib.Core.Path.{sym, ◌∙◌}
use Rattle.reading.specs.Calls.{gap}
use Rattle.reader_records.specs.Records.{lent}
use Rattle.board.specs.Board.{board_of}
use Rattle.board.proofs.OneCall.{refused_call, answered_step, fits, received_call}
use Rattle.board.proofs.gap.Goals as goal

pub returns-in-Some : goal.returns-in-Some
returns-in-Some c =
    let b = board_of (lent c.args.held.now c.args.count.now) c.args.table.now c.args.registered in
    let said = refused_call b gap c.args.packet.now c.in-Some.fault (sym c.in-Some.ensures) c.refused.result c.refused.ensures in
    record { value = said.0; count_after = said.1 }

-- the reader refuses nothing more
pub unreachable-requires : goal.unreachable-requires
unreachable-requires c =
    let b = board_of (lent c.args.held.now c.args.count.now) c.args.table.now c.args.registered in
    c.in_default-gap_lean.not-Ok _ (c.gap_lean.ensures.0 ∙ answered_step b gap c.args.packet.now (sym c.in_default.ensures))

-- what the reader answered fits the packet buffer
pub follow-requires : goal.follow-requires
follow-requires c =
    let b = board_of (lent c.args.held.now c.args.count.now) c.args.table.now c.args.registered in
    let e = c.in-Ok.ensures in
    fits b gap c.args.packet.now (sym c.in_default.ensures) c.in-Ok.step _ _ e.0 e.1 e.2

pub returns : goal.returns
returns c =
    let b = board_of (lent c.args.held.now c.args.count.now) c.args.table.now c.args.registered in
    let e = c.in-Ok.ensures in
    let f = c.follow.ensures in
    let said = received_call b gap c.args.packet.now (sym c.in_default.ensures) c.in-Ok.step _ _ e.0 e.1 e.2
    c.follow.result _ _ f.value f.table_after f.packet_after in
    record { value = said.0; count_after = said.1 }
