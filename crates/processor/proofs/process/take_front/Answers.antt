-- `processor::process::take_front` meets its contract. Assumes nothing.
use borrow.Author.Tests.{eq-eqb, ne_eqb}
use Rattle.model.specs.Machine.{take_front, space_of}
use Rattle.processor.proofs.Laws.{like, faulty, fault-passed}
use Rattle.processor.proofs.process.take_front.Goals as goal

pub returns-then-first-cpu : goal.returns-then-first-cpu
unfolding take_front space_of
returns-then-first-cpu c u h = like (c.resume.ensures u h) (λ x. rw (eq-eqb _ _ c.if-first-cpu.true))

pub returns : goal.returns
unfolding take_front space_of
returns c u h =
    like (c.resume-2.ensures u h)
    (λ x. rw (ne_eqb _ _ c.if-first-cpu.false, ← c.link_word.ensures, c.peek.ensures u h x _, c.in_ok-front.was))

pub returns-in_err-front : goal.returns-in_err-front
unfolding take_front space_of
returns-in_err-front c u h =
    rw (fault-passed c.from_residual.result c.from_residual.ensures.1)
    (faulty
    (λ x. rw (ne_eqb _ _ c.if-first-cpu.false, ← c.link_word.ensures, c.peek.ensures u h x _, c.in_err-front.was)))
