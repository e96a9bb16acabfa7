-- `processor::outside::wake` meets its contract. Assumes nothing.
use mathlib.Core.Path.{◌∙◌}
use Rattle.processor.proofs.Laws.{like, faulty, join_free, wakes-running, wakes-free, fault-passed}
use Rattle.processor.proofs.outside.wake.Goals as goal

pub returns-then-cpu : goal.returns-then-cpu
returns-then-cpu c u h g =
    like (c.join.ensures u h) (λ x. wakes-running x u _ _ _ c.if-cpu.true)

pub returns : goal.returns
returns c u h g =
    like (c.land.ensures u g _)
    (λ x.
    wakes-free x u c.args.cpu _ _ c.if-cpu.false
    ∙ rw (join_free x u c.args.cpu _ _ c.if-cpu.false, (c.resume.ensures u h).said x, c.in_ok-q.was))

pub returns-in_err-q : goal.returns-in_err-q
returns-in_err-q c u h g =
    rw (fault-passed c.from_residual.result c.from_residual.ensures.1)
    (faulty
    (λ x.
    wakes-free x u c.args.cpu _ _ c.if-cpu.false
    ∙ rw (join_free x u c.args.cpu _ _ c.if-cpu.false, (c.resume.ensures u h).said x, c.in_err-q.was)))
