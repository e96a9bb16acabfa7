-- `timer::alt::wait_set` meets its contract. Assumes nothing.
use borrow.Author.Tests.{eq-eqb, ne_eqb}
use Rattle.timer.proofs.Sleeping.{unseen, alike, faulted, alt-waits}
use Rattle.processor.proofs.Laws.{fault-passed}
use Rattle.timer.proofs.alt.wait_set.Goals as goal

pub returns-then-x : goal.returns-then-x
returns-then-x c u h g =
    alike (c.wait_time.ensures u h g)
    (λ x. rw (← c.time_link_word.ensures, c.peek.ensures u h _ _, c.in_ok-x.was, eq-eqb _ _ c.if-x.true))

pub returns : goal.returns
returns c u h g =
    alike (unseen _ _ (c.poke2_tell.ensures u h g))
    (λ x.
    rw (
      ← c.time_link_word.ensures,
      c.peek.ensures u h _ _,
      c.in_ok-x.was,
      ne_eqb _ _ c.if-x.false,
      ← c.state_word-b.ensures,
      ← c.resume_word-c.ensures,
    )
    (alt-waits _ _ _ _ _))

pub returns-in_err-x : goal.returns-in_err-x
returns-in_err-x c u h g =
    rw (fault-passed c.from_residual.result c.from_residual.ensures.1)
    (faulted (λ x. rw (← c.time_link_word.ensures, c.peek.ensures u h _ _, c.in_err-x.was)))
