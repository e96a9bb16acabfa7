-- `processor::process::end_process` meets its contract. Assumes nothing.
use borrow.Author.Tests.{eq-eqb, ne_eqb}
use Rattle.model.specs.Execute.{end_process}
use Rattle.processor.proofs.Laws.{like, faulty, poke-release, fault-passed}
use Rattle.processor.proofs.process.end_process.Goals as goal

pub returns-then-n-eq1 : goal.returns-then-n-eq1
unfolding end_process
returns-then-n-eq1 c u h g =
    like (c.last_ends.ensures u h g)
    (λ x. rw (← c.plus-a.ensures, c.peek.ensures u h x _, c.in_ok-n.was, eq-eqb _ _ c.if-n-eq1.true))

pub returns : goal.returns
unfolding end_process
returns c u h g =
    like (c.poke_release.ensures u h g)
    (λ x.
    rw (← c.plus-a.ensures, c.peek.ensures u h x _, c.in_ok-n.was, ne_eqb _ _ c.if-n-eq1.false, ← c.less.ensures)
    (poke-release _ _ _))

pub returns-in_err-n : goal.returns-in_err-n
unfolding end_process
returns-in_err-n c u h g =
    rw (fault-passed c.from_residual.result c.from_residual.ensures.1)
    (faulty (λ x. rw (← c.plus-a.ensures, c.peek.ensures u h x _, c.in_err-n.was)))
