-- `processor::wait::wake_release` meets its contract. Assumes nothing.
use borrow.Author.Tests.{eq-eqb, ne_eqb}
use Rattle.processor.proofs.Laws.{like}
use Rattle.processor.proofs.wait.wake_release.Goals as goal

pub returns-then-state-eq-WAITING : goal.returns-then-state-eq-WAITING
returns-then-state-eq-WAITING c u h g =
    like (c.join_release.ensures u h g) (λ x. rw (eq-eqb _ _ c.if-state-eq-WAITING.true))

pub returns : goal.returns
returns c u h g = like (c.release.ensures u h g) (λ x. rw (ne_eqb _ _ c.if-state-eq-WAITING.false))
