-- `timer::sleep::sleep_release` meets its contract. Assumes nothing.
use mathlib.Core.Path.{sym, ◌∙◌}
use Rattle.timer.proofs.Sleeping.{alike, faulted, sleeps-at, sleeps-fault}
use Rattle.processor.proofs.Laws.{fault-passed}
use Rattle.timer.proofs.sleep.sleep_release.Goals as goal

pub returns : goal.returns
returns c u h g k =
    alike (c.link_release.ensures u h g k) (λ x. sleeps-at u x _ _ k _ h _ (sym c.in_ok-here.was ∙ c.walk.ensures))

pub returns-in_err-here : goal.returns-in_err-here
returns-in_err-here c u h g k =
    rw (fault-passed c.from_residual.result c.from_residual.ensures.1)
    (faulted (λ x. sleeps-fault u x _ _ k _ h _ (sym c.in_err-here.was ∙ c.walk.ensures)))
