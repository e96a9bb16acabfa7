-- `timer::alt::wait_ready` meets its contract. Assumes nothing.
use borrow.Author.Tests.{eq-eqb, ne_eqb}
use Rattle.processor.specs.Quiet.{timing}
use Rattle.processor.proofs.Talking.{poke-lands}
use Rattle.timer.proofs.Sleeping.{unseen, alike, faulted}
use Rattle.processor.proofs.Laws.{fault-passed}
use Rattle.timer.proofs.alt.wait_ready.Goals as goal

pub returns-then-s : goal.returns-then-s
returns-then-s c u h g =
    alike (unseen _ _ (c.poke.ensures u h))
    (λ x.
    rw (← c.state_word.ensures, c.peek.ensures u h _ _, c.in_ok-s.was, eq-eqb _ _ c.if-s.true, ← c.time_word.ensures)
    (poke-lands (timing _ _ x) u _ _ c.requires.0 (rw g c.requires.1) _ _))

pub returns : goal.returns
returns c u h g =
    alike (c.wait_set.ensures u h g)
    (λ x. rw (← c.state_word.ensures, c.peek.ensures u h _ _, c.in_ok-s.was, ne_eqb _ _ c.if-s.false))

pub returns-in_err-s : goal.returns-in_err-s
returns-in_err-s c u h g =
    rw (fault-passed c.from_residual.result c.from_residual.ensures.1)
    (faulted (λ x. rw (← c.state_word.ensures, c.peek.ensures u h _ _, c.in_err-s.was)))
