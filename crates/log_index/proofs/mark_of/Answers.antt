use borrow.Author.Tests.{lt-ltb, le-ltb}
use Rattle.log_index.proofs.mark_of.Goals as goal

pub returns-then-id-lt253 : goal.returns-then-id-lt253
returns-then-id-lt253 c = rw (lt-ltb _ 253 c.if-id-lt253.true)

pub returns-else-id-lt253 : goal.returns-else-id-lt253
returns-else-id-lt253 c = rw (le-ltb _ 253 c.if-id-lt253.false)
