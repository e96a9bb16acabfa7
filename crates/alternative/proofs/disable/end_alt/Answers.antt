-- `alternative::disable::end_alt` meets its contract. Assumes nothing.
use Rattle.model.specs.Alternative.{end_alt}
use Rattle.processor.proofs.Laws.{like, faulty, fault-passed}
use Rattle.alternative.proofs.disable.end_alt.Goals as goal

pub returns : goal.returns
unfolding end_alt
returns c u h g =
    like (c.land.ensures u g _)
    (λ x. rw (c.peek.ensures u h x _, c.in_ok-d.was, c.goto.ensures, ← c.plus.ensures))

pub returns-in_err-d : goal.returns-in_err-d
unfolding end_alt
returns-in_err-d c u h g =
    rw (fault-passed c.from_residual.result c.from_residual.ensures.1)
    (faulty (λ x. rw (c.peek.ensures u h x _, c.in_err-d.was)))
