-- `waking::opening::wake_settle` meets its contract. Assumes nothing.
use Rattle.waking.proofs.Begun.{begins-awake, begins-fault}
use Rattle.processor.proofs.Laws.{fault-passed}
use Rattle.waking.proofs.opening.wake_settle.Goals as goal

pub returns : goal.returns
returns c =
    let awake = rw c.in_ok-awake.was at c.wake_all.ensures in
    record { said = begins-awake c.settle.result awake c.settle.ensures; long = c.wake_all.ensures.long }

pub returns-in_err-awake : goal.returns-in_err-awake
returns-in_err-awake c =
    let fault = rw c.in_err-awake.was at c.wake_all.ensures in
    rw (fault-passed c.from_residual.result c.from_residual.ensures.1)
    (record { said = λ u h g x. begins-fault fault u h x; long = c.wake_all.ensures.long })
