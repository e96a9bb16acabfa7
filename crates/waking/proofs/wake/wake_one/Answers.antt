-- `waking::wake::wake_one` meets its contract. Assumes nothing.
use Rattle.processor.proofs.Laws.{fault-passed}
use Rattle.waking.proofs.Waking.{one-woken, one-refused}
use Rattle.waking.proofs.wake.wake_one.Goals as goal

pub returns : goal.returns
returns c =
    let held = rw c.time_link_word.ensures at c.swap.ensures.held in
    let holds = rw c.time_link_word.ensures at c.swap.ensures.holds in
    let d = rw c.in_ok-cpu.was at c.wake_rest.ensures in
    one-woken c.args.clock c.args.p (held, holds) _ c.in_ok-front.was d

pub returns-in_err-cpu : goal.returns-in_err-cpu
returns-in_err-cpu c =
    let held = rw c.time_link_word.ensures at c.swap.ensures.held in
    let holds = rw c.time_link_word.ensures at c.swap.ensures.holds in
    let d = rw c.in_err-cpu.was at c.wake_rest.ensures in
    rw (fault-passed c.from_residual-in_err-cpu.result c.from_residual-in_err-cpu.ensures.1)
    (one-woken c.args.clock c.args.p (held, holds) _ c.in_ok-front.was d)

pub returns-in_err-front : goal.returns-in_err-front
returns-in_err-front c =
    let held = rw c.time_link_word.ensures at c.swap.ensures.held in
    let holds = rw c.time_link_word.ensures at c.swap.ensures.holds in
    rw (fault-passed c.from_residual.result c.from_residual.ensures.1)
    (one-refused c.args.clock c.args.p (held, holds) c.in_err-front.was)
