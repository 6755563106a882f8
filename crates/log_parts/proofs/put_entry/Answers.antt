use mathlib.Core.Path.{sym, ◌∙◌}
use borrow.Author.Tests.{leb-true}
use Rattle.log_parts.proofs.Numbers.{put_fits, put_not}
use Rattle.log_parts.proofs.put_entry.Goals as goal

pub entry_in-requires : goal.entry_in-requires
entry_in-requires c = leb-true _ _ (sym c.has_room.ensures ∙ c.if-has_room.true)

pub returns-then-has_room : goal.returns-then-has_room
returns-then-has_room c = c.entry_in.ensures ∙ sym (put_fits _ _ _ _ (leb-true _ _ (sym c.has_room.ensures ∙ c.if-has_room.true)))

pub returns-else-has_room : goal.returns-else-has_room
returns-else-has_room c = sym (put_not _ _ _ _ (sym c.has_room.ensures ∙ c.if-has_room.false))
