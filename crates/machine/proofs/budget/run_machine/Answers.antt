-- `machine::budget::run_machine` meets its contract. Assumes nothing.
use mathlib.Core.Path.{sym, ◌∙◌}
use Rattle.machine.proofs.Answered.{begun, not-begun}
use Rattle.machine.proofs.budget.run_machine.Goals as goal

pub run_awake-requires : goal.run_awake-requires
run_awake-requires c =
    record { sized = (c.requires.sized.0 ∙ sym c.begin.auto.memory, c.requires.sized.1); fault_value = c.requires.fault_value.0 }

pub returns-in-Ok : goal.returns-in-Ok
returns-in-Ok c behind =
    let b = rw c.in-Ok.is at c.begin.ensures in
    begun c.args.machine _ _ behind _ _ c.requires.fault_value.1 c.requires.sized.1 c.requires.sized.0 c.requires.fault_value.0 b
    (c.run_awake.ensures behind)

pub returns-in-Err : goal.returns-in-Err
returns-in-Err c behind =
    let b = rw c.in-Err.is at c.begin.ensures in
    let a = not-begun c.args.machine c.args.code.now c.args.memory.now behind c.args.budget c.args.clock c.requires.fault_value.1
    c.requires.sized.1 c.requires.sized.0 c.requires.fault_value.0 b in
    record { answer = cc a.answer; machine = cc a.machine; memory = a.memory }
