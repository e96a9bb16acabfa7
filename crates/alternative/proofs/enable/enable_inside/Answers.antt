-- `alternative::enable::enable_inside` meets its contract. Assumes nothing.
use borrow.Author.Tests.{eq-eqb, ne_eqb}
use Rattle.model.specs.Machine.{name_of}
use Rattle.model.specs.Alternative.{set_ready}
use Rattle.processor.proofs.Laws.{like, ends, faulty, fault-passed}
use Rattle.alternative.proofs.enable.enable_inside.Goals as goal

pub returns-then-p : goal.returns-then-p
unfolding name_of
returns-then-p c u h =
    like (c.poke.ensures u h) (λ x. rw (c.peek.ensures u h x _, c.in_ok-p.was, eq-eqb _ _ c.if-p.true))

pub returns-then-p-cpu : goal.returns-then-p-cpu
unfolding name_of
returns-then-p-cpu c u h =
    ends (λ x. rw (c.peek.ensures u h x _, c.in_ok-p.was, ne_eqb _ _ c.if-p.false, eq-eqb _ _ c.if-p-cpu.true))

pub returns : goal.returns
unfolding set_ready name_of
returns c u h =
    like (c.set_state.ensures u h)
    (λ x. rw (c.peek.ensures u h x _, c.in_ok-p.was, ne_eqb _ _ c.if-p.false, ne_eqb _ _ c.if-p-cpu.false))

pub returns-in_err-p : goal.returns-in_err-p
returns-in_err-p c u h =
    rw (fault-passed c.from_residual.result c.from_residual.ensures.1)
    (faulty (λ x. rw (c.peek.ensures u h x _, c.in_err-p.was)))
