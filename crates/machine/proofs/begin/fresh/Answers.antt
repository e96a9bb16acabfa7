-- `machine::begin::fresh` meets its contract. Assumes nothing.
use Rattle.model.specs.Run.{fresh}
use Rattle.machine.proofs.begin.fresh.Goals as goal

pub returns : goal.returns
unfolding fresh
returns c = simp (c.registers.ensures, c.no_timer.ensures)
