-- `timer::sleep::poke_sleep` meets its contract. Assumes nothing.
use mathlib.Core.Path.{sym, ◌∙◌}
use Rattle.timer.proofs.Sleeping.{slept, not-slept}
use Rattle.processor.proofs.Laws.{fault-passed}
use Rattle.timer.proofs.sleep.poke_sleep.Goals as goal

pub returns : goal.returns
returns c u h g k =
    let j = h ∙ sym c.swap.auto.memory in
    slept _ _ _ h _ (c.swap.ensures.held, c.swap.ensures.holds) c.in_ok-old.was (c.sleep_release-step.ensures u j g k)
    (c.undo.ensures.same, c.undo.ensures.back)

pub returns-in_err-old : goal.returns-in_err-old
returns-in_err-old c u h g k =
    rw (fault-passed c.from_residual.result c.from_residual.ensures.1)
    (not-slept _ _ _ h (c.swap.ensures.held, c.swap.ensures.holds) c.in_err-old.was)
