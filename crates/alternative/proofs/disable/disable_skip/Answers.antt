-- `alternative::disable::disable_skip` meets its contract. Assumes nothing.
use borrow.Author.Tests.{eq-eqb, ne_eqb}
use Rattle.model.specs.Alternative.{disable_skip}
use Rattle.processor.proofs.Laws.{like, ends}
use Rattle.processor.proofs.Talking.{lands}
use Rattle.alternative.proofs.Staying.{selects, chooses}
use Rattle.alternative.proofs.disable.disable_skip.Goals as goal

pub returns-then-cpu-eq0 : goal.returns-then-cpu-eq0
unfolding disable_skip
returns-then-cpu-eq0 c u h p =
    ends (λ x. rw (eq-eqb _ _ c.if-cpu-eq0.true, c.stack-r.ensures) (lands _ c.requires p))

pub returns : goal.returns
unfolding disable_skip
returns c u h p =
    like (c.select.ensures u h)
    (λ x. rw (ne_eqb _ _ c.if-cpu-eq0.false, c.stack-r.ensures) (chooses x u _ _ c.requires p 0 (λ q. q.c) (selects _ _)))
