-- `timer::walk::pass` meets its contract. Assumes nothing.
use mathlib.Core.Path.{sym, ◌∙◌}
use Rattle.processor.proofs.Laws.{fault-passed}
use Rattle.timer.specs.Walks.{pass_in}
use Rattle.timer.proofs.Walking.{saw}
use Rattle.timer.proofs.walk.pass.Goals as goal

pub returns-then-branch : goal.returns-then-branch
unfolding pass_in
returns-then-branch c = rw (sym c.stops.ensures ∙ c.in_ok-stops.was, c.if-branch.true)

pub returns-in_err-stops : goal.returns-in_err-stops
unfolding pass_in
returns-in_err-stops c =
    fault-passed c.from_residual.result c.from_residual.ensures.1 ∙ rw (sym c.stops.ensures ∙ c.in_err-stops.was)

pub returns : goal.returns
unfolding pass_in
returns c =
    rw (sym c.stops.ensures ∙ c.in_ok-stops.was, c.if-branch.false, saw _ c.peek.ensures c.time_link_word.ensures c.in_ok-q.was)

pub returns-in_err-q : goal.returns-in_err-q
unfolding pass_in
returns-in_err-q c =
    fault-passed c.from_residual-in_err-q.result c.from_residual-in_err-q.ensures.1
    ∙ rw (sym c.stops.ensures ∙ c.in_ok-stops.was, c.if-branch.false, saw _ c.peek.ensures c.time_link_word.ensures c.in_err-q.was)
