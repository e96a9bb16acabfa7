-- `machine::budget::run_awake` meets its contract. Assumes nothing.
use Rattle.machine.proofs.Answered.{ran}
use Rattle.machine.proofs.budget.run_awake.Goals as goal

pub returns : goal.returns
returns c behind =
    rw c.kept.ensures (ran c.args.machine _ _ behind _ _ c.requires.fault_value c.run_bytes-end.ensures)
