use mathlib.Core.Path.{◌∙◌}
use Rattle.log_index.proofs.Starts.{start_same}
use Rattle.log_index.proofs.next_event.Goals as goal

pub returns : goal.returns
returns c = c.next_event.ensures ∙ start_same _ _ _ c.next_start-start.ensures
