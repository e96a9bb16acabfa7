-- `executor::execute::operate_timer` meets its contract. Assumes nothing.
use borrow.Author.Rules.{rules}
use Rattle.model.specs.Instruction.{operation_code, ldtimer, tin, dist, enbt, talt, taltwt}
use Rattle.model.specs.Execute.{operate}
use Rattle.executor.specs.Steps.{Other, on_timers}
use Rattle.executor.proofs.Executes.{operates, loads, done-as, timed-as, faulted, unused}
use Rattle.executor.proofs.execute.operate_timer.Goals as goal

pub returns-in-34 : goal.returns-in-34
unfolding operation_code operate
returns-in-34 c u h g o b =
    rw (operates ldtimer c.in-34.is) (loads o b _ _ c.requires.sized.0 (rw g c.requires.sized.1) c.push.ensures)

pub returns-in-43 : goal.returns-in-43
unfolding operation_code operate
returns-in-43 c u h g o b =
    timed-as o b (operates tin c.in-43.is) (c.timer_input.ensures u h g)

pub returns-in-46 : goal.returns-in-46
unfolding operation_code operate
returns-in-46 c u h g o b =
    timed-as o b (operates dist c.in-46.is) (c.disable_time.ensures u h (rw g c.requires.sized.1) _)

pub returns-in-71 : goal.returns-in-71
unfolding operation_code operate
returns-in-71 c u h g o b =
    done-as o b _ _ (operates enbt c.in-71.is) (c.enable_time.ensures u h (rw g c.requires.sized.1))

pub returns-in-78 : goal.returns-in-78
unfolding operation_code operate
returns-in-78 c u h g o b =
    done-as o b _ _ (operates talt c.in-78.is) (c.begin_timed_alt.ensures u h (rw g c.requires.sized.1))

pub returns-in-81 : goal.returns-in-81
unfolding operation_code operate
returns-in-81 c u h g o b =
    timed-as o b (operates taltwt c.in-81.is) (c.wait_timed_alt.ensures u h g)

pub returns-in_default : goal.returns-in_default
unfolding operation_code
returns-in_default c u h g o b =
    let rest : Other on_timers c.args.n = search rules in
    faulted o b _ _ (unused c.args.n c.requires.other.0 c.requires.other.1 c.requires.other.2 rest)
