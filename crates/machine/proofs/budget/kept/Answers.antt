-- `machine::budget::kept` meets its contract. Assumes nothing.
use Rattle.machine.proofs.budget.kept.Goals as goal

pub returns-in-Fault : goal.returns-in-Fault
returns-in-Fault c = rw c.in-Fault.is
