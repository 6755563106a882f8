use mathlib.Core.Path.{◌∙◌}
use native.Mathlib.Omega.{arith}
use borrow.Author.Tests.{eq-eqb, ne_eqb}
use Rattle.device_status.proofs.Sending.{refuses_id, refuses_count, refuses_room, accepts, fits, goes_out}
use Rattle.device_status.proofs.send.Goals as goal

pub returns-then-reply-gt-MAX_ID : goal.returns-then-reply-gt-MAX_ID
returns-then-reply-gt-MAX_ID c =
    let a = c.args in
    let e = refuses_id a.reply a.out.now (omega arith) in
    record {
      value = rw e;
      out_after = rw e;
    }

pub returns-then-reply-gt-MAX_REPLY_DATA : goal.returns-then-reply-gt-MAX_REPLY_DATA
returns-then-reply-gt-MAX_REPLY_DATA c =
    let a = c.args in
    let e = refuses_count a.reply a.out.now (omega arith) (omega arith) in
    record {
      value = rw e;
      out_after = rw e;
    }

pub returns-then-out-lt-MIN_REPLY : goal.returns-then-out-lt-MIN_REPLY
returns-then-out-lt-MIN_REPLY c =
    let a = c.args in
    let e = refuses_room a.reply a.out.now (omega arith) (omega arith) (omega arith) in
    record {
      value = rw e;
      out_after = rw e;
    }

pub returns-then-reply-eq0 : goal.returns-then-reply-eq0
returns-then-reply-eq0 c =
    let a = c.args in
    let e = accepts a.reply a.out.now (omega arith) (omega arith) (omega arith) in
    let s = eq-eqb a.reply.speaks 0 c.if-reply-eq0.true in
    record {
      value = rw (e, s);
      out_after = rw (e, s);
    }

pub returns : goal.returns
returns c =
    let a = c.args in
    let e = accepts a.reply a.out.now (omega arith) (omega arith) (omega arith) in
    let f = fits a.reply a.out.now (omega arith) (omega arith) (omega arith) in
    let s = ne_eqb a.reply.speaks 0 c.if-reply-eq0.false in
    let g = goes_out a.reply a.out.now (omega arith) (omega arith) (omega arith) in
    record {
      value = c.write_status.ensures.value ∙ g ∙ rw (e, s);
      out_after = rw (e, s) (rw f at c.write_status.ensures.out_after);
    }
