-- `alternative::enable::enable_skip` meets its contract. Assumes nothing.
use borrow.Author.Tests.{eq-eqb, ne_eqb}
use Rattle.model.specs.Alternative.{enable_skip, set_ready}
use Rattle.processor.proofs.Laws.{like, ends}
use Rattle.processor.proofs.Talking.{lands}
use Rattle.alternative.proofs.Staying.{pokes, stays}
use Rattle.alternative.proofs.enable.enable_skip.Goals as goal

pub returns-then-cpu-eq0 : goal.returns-then-cpu-eq0
unfolding enable_skip
returns-then-cpu-eq0 c u h p =
    ends (λ x. rw (eq-eqb _ _ c.if-cpu-eq0.true) (lands _ c.requires p))

pub returns : goal.returns
unfolding enable_skip set_ready
returns c u h p =
    like (c.set_state.ensures u h) (λ x. rw (ne_eqb _ _ c.if-cpu-eq0.false) (stays x u _ _ c.requires p (pokes _ _ _)))
