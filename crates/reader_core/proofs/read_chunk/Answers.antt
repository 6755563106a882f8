use Rattle.reader_core.proofs.Rounds.{rest_within, room_for, ends_on, ends_left, ends_rest}
use native.Mathlib.Omega.{arith}
use borrow.Author.Rules.{rules}
use Rattle.reader_core.proofs.read_chunk.Goals as goal

pub deliver_chunk-requires : goal.deliver_chunk-requires
deliver_chunk-requires c =
    let v = c.advance-ahead.result.seen in
    let w = c.advance-ahead.ensures in (
      ends_on c.args.protocol _ _ _ _ _ v w.0 w.1,
      w.0,
      room_for _ _ _ (ends_left c.args.protocol _ _ _ _ _ v w.0 w.1 (search rules)) c.requires.1,
      room_for _ _ _ w.1.short c.requires.2,
      c.requires.2,
      omega (arith, rest_within c.args.chunk.now c.args.from _ w.0 c.requires.0),
    )

pub returns : goal.returns
returns c =
    let w = c.advance-ahead.ensures in
    let d = c.deliver_chunk.ensures in
    record {
      delivered = rw (ends_rest c.args.protocol c.args.chunk.now _ c.args.from _ _ w.1) d.delivered;
      stayed = d.stayed;
    }
