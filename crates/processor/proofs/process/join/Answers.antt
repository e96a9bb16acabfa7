-- `processor::process::join` meets its contract. Assumes nothing.
use Rattle.processor.proofs.Laws.{like, join-queues}
use Rattle.processor.proofs.process.join.Goals as goal

pub returns : goal.returns
returns c u h =
    like (c.enqueue.ensures u h) (λ x. join-queues x u _ _ _ c.requires)
