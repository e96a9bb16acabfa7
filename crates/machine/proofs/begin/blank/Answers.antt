-- `machine::begin::blank` meets its contract. Assumes nothing.
use Rattle.model.specs.Run.{blank}
use Rattle.machine.proofs.begin.blank.Goals as goal

pub returns : goal.returns
unfolding blank
returns c = simp (c.registers.ensures, c.no_timer.ensures)
