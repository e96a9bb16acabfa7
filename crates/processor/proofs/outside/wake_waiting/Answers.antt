-- `processor::outside::wake_waiting` meets its contract. Assumes nothing.
use borrow.Author.Tests.{eq-eqb, ne_eqb}
use Rattle.processor.proofs.Laws.{like, ends}
use Rattle.processor.proofs.outside.wake_waiting.Goals as goal

pub returns-then-state-eq-WAITING : goal.returns-then-state-eq-WAITING
returns-then-state-eq-WAITING c u h g =
    like (c.wake.ensures u h g) (λ x. rw (eq-eqb _ _ c.if-state-eq-WAITING.true))

pub returns : goal.returns
returns c u h g = ends (λ x. rw (ne_eqb _ _ c.if-state-eq-WAITING.false))
