-- `machine::taking::take_from` meets its contract. Assumes nothing.
use mathlib.Core.Path.{refl}
use Rattle.machine.specs.Runs.{rest_of}
use Rattle.machine.proofs.Takes.{take-wakes, take-fault}
use Rattle.machine.proofs.taking.take_from.Goals as goal

pub returns-in-Ok : goal.returns-in-Ok
returns-in-Ok c behind =
    let d = c.receive.ensures c.args.machine.setup c.requires.sized.0 (rest_of c.args.machine behind) c.args.machine.cpu in
    rw c.settle.ensures
    (take-wakes _ _ behind _ c.requires.sized.0 c.requires.sized.1
    c.requires.k_lt_outputs.0 c.requires.k_value c.requires.k_lt_outputs.1 _ (rw c.in-Ok.is at d)
    (c.empty_wake-step.ensures c.args.machine.setup c.requires.sized.0 refl))

pub returns-in-Err : goal.returns-in-Err
returns-in-Err c behind =
    let d = c.receive.ensures c.args.machine.setup c.requires.sized.0 (rest_of c.args.machine behind) c.args.machine.cpu in
    rw c.settle-in-Err.ensures
    (take-fault _ _ behind _ c.requires.sized.0 c.requires.sized.1
    c.requires.k_lt_outputs.0 c.requires.k_value c.requires.k_lt_outputs.1 0 (rw c.in-Err.is at d))
