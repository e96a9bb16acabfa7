-- `waking::opening::settle` meets its contract. Assumes nothing.
use mathlib.Core.Path.{◌∙◌}
use Rattle.waking.specs.Wakes.{fronted}
use Rattle.waking.proofs.Begun.{settles-running, settles-free}
use Rattle.processor.proofs.Laws.{fault-passed}
use Rattle.waking.proofs.opening.settle.Goals as goal

pub returns-then-cpu : goal.returns-then-cpu
returns-then-cpu c u h g x = settles-running (fronted c.args.awake.front x) u _ _ c.if-cpu.true

pub returns : goal.returns
returns c u h g x =
    let y = fronted c.args.awake.front x in
    settles-free y u _ _ c.if-cpu.false ∙ (c.release.ensures u h g).said y ∙ rw c.in_ok-cpu.was

pub returns-in_err-cpu : goal.returns-in_err-cpu
returns-in_err-cpu c u h g x =
    let y = fronted c.args.awake.front x in
    rw (fault-passed c.from_residual.result c.from_residual.ensures.1)
    (settles-free y u _ _ c.if-cpu.false ∙ (c.release.ensures u h g).said y ∙ rw c.in_err-cpu.was)
