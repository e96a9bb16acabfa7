-- `timer::alt::disable_time` meets its contract. Assumes nothing.
use borrow.Author.Tests.{eq-eqb, ne_eqb}
use Rattle.model.specs.Timer.{disable_set, disable_time}
use Rattle.processor.proofs.Talking.{lands}
use Rattle.timer.proofs.Sleeping.{alike, ended, faulted}
use Rattle.processor.proofs.Laws.{fault-passed}
use Rattle.timer.proofs.alt.disable_time.Goals as goal

pub returns-then-cpu-eq0 : goal.returns-then-cpu-eq0
unfolding disable_time
returns-then-cpu-eq0 c u h p k =
    ended (λ x. rw (eq-eqb _ _ c.if-cpu-eq0.true, c.stack.ensures) (lands _ c.requires p))

pub returns : goal.returns
unfolding disable_time disable_set
returns c u h p k =
    alike (c.disable_state.ensures u h p k)
    (λ x. rw (ne_eqb _ _ c.if-cpu-eq0.false, ← c.time_link_word.ensures, c.peek.ensures u h _ _, c.in_ok-x.was))

pub returns-in_err-x : goal.returns-in_err-x
unfolding disable_time disable_set
returns-in_err-x c u h p k =
    rw (fault-passed c.from_residual.result c.from_residual.ensures.1)
    (faulted (λ x. rw (ne_eqb _ _ c.if-cpu-eq0.false, ← c.time_link_word.ensures, c.peek.ensures u h _ _, c.in_err-x.was)))
