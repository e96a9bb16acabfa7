-- `report::opening::refusing` meets its contract. Assumes nothing.
use Rattle.report.proofs.opening.refusing.Goals as goal

pub returns : goal.returns
returns c = rw (c.blank.ensures, c.number.ensures)
