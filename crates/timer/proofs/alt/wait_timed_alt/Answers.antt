-- `timer::alt::wait_timed_alt` meets its contract. Assumes nothing.
use mathlib.Core.Path.{sym, ◌∙◌}
use Rattle.processor.specs.Pieces.{landing}
use Rattle.processor.specs.Quiet.{timing}
use Rattle.timer.specs.Sleeps.{wait_ready}
use Rattle.timer.proofs.Sleeping.{alike, slept, not-slept, timed-shape}
use Rattle.processor.proofs.Laws.{fault-passed}
use Rattle.timer.proofs.alt.wait_timed_alt.Goals as goal

pub returns : goal.returns
returns c u h g =
    let j = h ∙ sym c.swap.auto.memory in
    alike (slept _ _ _ h _ (c.swap.ensures.held, c.swap.ensures.holds) c.in_ok-old.was (c.wait_ready-step.ensures u j g)
    (c.undo.ensures.same, c.undo.ensures.back)) (λ x. timed-shape (timing _ _ x) u _ _)

pub returns-in_err-old : goal.returns-in_err-old
returns-in_err-old c u h g =
    rw (fault-passed c.from_residual.result c.from_residual.ensures.1)
    (alike (not-slept _ _ (landing (wait_ready c.args.cpu.workspace c.args.clock)) h
    (c.swap.ensures.held, c.swap.ensures.holds) c.in_err-old.was)
    (λ x. timed-shape (timing _ _ x) u _ _))
