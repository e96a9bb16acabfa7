-- `processor::process::last_ends` meets its contract. Assumes nothing.
use Rattle.processor.proofs.Laws.{like, faulty, fault-passed}
use Rattle.processor.proofs.process.last_ends.Goals as goal

pub returns : goal.returns
returns c u h g =
    like (c.land.ensures u g _) (λ x. rw (c.peek.ensures u h x _, c.in_ok-p.was, c.goto.ensures, c.work.ensures))

pub returns-in_err-p : goal.returns-in_err-p
returns-in_err-p c u h g =
    rw (fault-passed c.from_residual.result c.from_residual.ensures.1)
    (faulty (λ x. rw (c.peek.ensures u h x _, c.in_err-p.was)))
