-- `timer::alt::leave` meets its contract. Assumes nothing.
use mathlib.Core.Path.{sym, ◌∙◌}
use Rattle.timer.proofs.Sleeping.{alike, faulted, leaves_at, leaves-fault}
use Rattle.processor.proofs.Laws.{fault-passed}
use Rattle.timer.proofs.alt.leave.Goals as goal

pub returns : goal.returns
returns c =
    record {
      does = λ u h k. alike (c.unlink_at.ensures.does u h k) (λ x. leaves_at u x _ _ k _ h _ (sym c.in_ok-here.was ∙ c.walk.ensures));
      same = c.unlink_at.ensures.same;
    }

pub returns-in_err-here : goal.returns-in_err-here
returns-in_err-here c =
    rw (fault-passed c.from_residual.result c.from_residual.ensures.1)
    (record { does = (λ u h k. faulted (λ x. leaves-fault u x _ _ k _ h _ (sym c.in_err-here.was ∙ c.walk.ensures))); same = tt })
