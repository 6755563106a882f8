use mathlib.Core.Path.{sym}
use borrow.Author.Tests.{le-leb, lt-leb}
use Rattle.reader_scan.proofs.back_in_chunk.Goals as goal

pub returns-then-waiting-taken : goal.returns-then-waiting-taken
returns-then-waiting-taken c = simp (le-leb _ _ c.if-waiting-taken.true, sym c.shortest.ensures)

pub returns-else-waiting-taken : goal.returns-else-waiting-taken
returns-else-waiting-taken c = simp (lt-leb _ _ c.if-waiting-taken.false)
