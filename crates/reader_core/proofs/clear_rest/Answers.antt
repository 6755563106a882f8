use Rattle.reader_core.proofs.clear_rest.Goals as goal

pub returns : goal.returns
returns c = (c.clear.ensures, rw c.size.ensures at c.clear-2.ensures)
