-- `processor::process::release` meets its contract. Assumes nothing.
use Rattle.processor.proofs.Laws.{like, faulty, release-takes, release-frees, fault-passed}
use Rattle.processor.proofs.process.release.Goals as goal

pub returns-then-cpu : goal.returns-then-cpu
returns-then-cpu c u h g =
    like (c.land_at.ensures u g _)
    (λ x. rw (release-takes x u c.args.cpu _ c.if-cpu.true, (c.take_front.ensures u h).said x, c.in_ok-r.was))

pub returns-in_err-r : goal.returns-in_err-r
returns-in_err-r c u h g =
    rw (fault-passed c.from_residual.result c.from_residual.ensures.1)
    (faulty (λ x. rw (release-takes x u c.args.cpu _ c.if-cpu.true, (c.take_front.ensures u h).said x, c.in_err-r.was)))

pub returns : goal.returns
returns c u h g =
    like (c.land_at-2.ensures u g _) (λ x. rw (release-frees x u c.args.cpu _ c.if-cpu.false))
