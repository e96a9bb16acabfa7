-- `timer::walk::stops` meets its contract. Assumes nothing.
use mathlib.Core.Path.{◌∙◌}
use Rattle.processor.proofs.Laws.{fault-passed}
use Rattle.timer.specs.Walks.{stops_in}
use Rattle.timer.proofs.Walking.{saw}
use Rattle.timer.proofs.walk.stops.Goals as goal

pub returns-in_ok-u-in-Later : goal.returns-in_ok-u-in-Later
unfolding stops_in
returns-in_ok-u-in-Later c =
    rw (c.in-Later.is, saw _ c.peek.ensures c.time_word.ensures c.in_ok-u-in-Later.was, c.after.ensures)

pub returns-in_err-u-in-Later : goal.returns-in_err-u-in-Later
unfolding stops_in
returns-in_err-u-in-Later c =
    fault-passed c.from_residual.result c.from_residual.ensures.1
    ∙ rw (c.in-Later.is, saw _ c.peek.ensures c.time_word.ensures c.in_err-u-in-Later.was)

pub returns-in-Is : goal.returns-in-Is
unfolding stops_in
returns-in-Is c = rw c.in-Is.is
