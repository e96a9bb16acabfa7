-- `statements::alt::next_guard` meets its contract. Assumes nothing.
use Rattle.statements.specs.Alts.{next_guard}
use Rattle.statements.proofs.alt.next_guard.Goals as goal

pub returns : goal.returns
unfolding next_guard
returns c = rw (c.extent_in.ensures, c.statement_of.ensures)
