-- `alternative::enable::wait_ready` meets its contract. Assumes nothing.
use borrow.Author.Tests.{eq-eqb, ne_eqb}
use Rattle.processor.proofs.Laws.{like, ends, faulty, fault-passed}
use Rattle.processor.proofs.Talking.{lands}
use Rattle.alternative.proofs.Staying.{poke2-release}
use Rattle.alternative.proofs.enable.wait_ready.Goals as goal

pub returns-then-s : goal.returns-then-s
returns-then-s c u h g =
    ends
    (λ x.
    rw (← c.state_word-a.ensures, c.peek.ensures u h x _, c.in_ok-s.was, eq-eqb _ _ c.if-s.true)
    (lands _ c.requires.0 (rw g c.requires.1)))

pub returns : goal.returns
returns c u h g =
    like (c.poke2_tell.ensures u h g)
    (λ x.
    rw (← c.state_word-a.ensures, c.peek.ensures u h x _, c.in_ok-s.was, ne_eqb _ _ c.if-s.false, ← c.resume_word-b.ensures)
    (poke2-release _ _ _ _ _))

pub returns-in_err-s : goal.returns-in_err-s
returns-in_err-s c u h g =
    rw (fault-passed c.from_residual.result c.from_residual.ensures.1)
    (faulty (λ x. rw (← c.state_word-a.ensures, c.peek.ensures u h x _, c.in_err-s.was)))
