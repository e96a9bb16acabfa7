-- `machine::outside::settle` meets its contract. Assumes nothing.
use Rattle.machine.proofs.outside.settle.Goals as goal

pub returns-in-Ok : goal.returns-in-Ok
returns-in-Ok c = rw (c.with_registers.ensures, c.in-Ok.is)

pub returns-in-Err : goal.returns-in-Err
returns-in-Err c = rw (c.keep_fault.ensures, c.in-Err.is)
