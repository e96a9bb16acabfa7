-- `waking::wake::wake_state` meets its contract. Assumes nothing.
use borrow.Author.Tests.{eq-eqb, ne_eqb}
use Rattle.model.specs.Machine.{space_of}
use Rattle.waking.proofs.Roughly.{rough-like, rough-ends, rough-faulty}
use Rattle.processor.proofs.Laws.{fault-passed}
use Rattle.waking.proofs.wake.wake_state.Goals as goal

pub returns-then-s : goal.returns-then-s
unfolding space_of
returns-then-s c u h =
    rough-like (c.ready_join.ensures u h)
    (λ x. rw (← c.state_word.ensures, c.peek.ensures u h x _, c.in_ok-s.was, eq-eqb _ _ c.if-s.true))

pub returns : goal.returns
unfolding space_of
returns c u h =
    rough-ends (λ x. rw (← c.state_word.ensures, c.peek.ensures u h x _, c.in_ok-s.was, ne_eqb _ _ c.if-s.false))

pub returns-in_err-s : goal.returns-in_err-s
unfolding space_of
returns-in_err-s c u h =
    rw (fault-passed c.from_residual.result c.from_residual.ensures.1)
    (rough-faulty (λ x. rw (← c.state_word.ensures, c.peek.ensures u h x _, c.in_err-s.was)))
