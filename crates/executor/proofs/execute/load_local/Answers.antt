-- `executor::execute::load_local` meets its contract. Assumes nothing.
use Rattle.model.specs.Execute.{load_local}
use Rattle.processor.proofs.Laws.{ends, faulty, fault-passed}
use Rattle.processor.proofs.Talking.{lands}
use Rattle.executor.proofs.execute.load_local.Goals as goal

pub returns : goal.returns
unfolding load_local
returns c u h g =
    ends (λ x. rw (← c.plus.ensures, c.peek.ensures u h x _, c.in_ok-v.was, c.push.ensures) (lands _ c.requires g))

pub returns-in_err-v : goal.returns-in_err-v
unfolding load_local
returns-in_err-v c u h g =
    rw (fault-passed c.from_residual.result c.from_residual.ensures.1)
    (faulty (λ x. rw (← c.plus.ensures, c.peek.ensures u h x _, c.in_err-v.was)))
