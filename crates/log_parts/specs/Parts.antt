-- A part of a log in a buffer: numbers from an offset on, where the buffer has room for the log's parts up to their end.
use Rattle.std.specs.Prelude.{cond, List, [], ℕ, leb, length}
use Rattle.lists.specs.Write.{placed}
use Rattle.log_layout.specs.Log.{laid}

-- the buffer with the numbers from `offset` on, or as it was where it has fewer than `needed` bytes [I1]
unfoldable pub put : ℕ → List ℕ → ℕ → List ℕ → List ℕ
put needed out offset numbers = cond (leb needed (length out)) (placed out offset (laid numbers [])) out
