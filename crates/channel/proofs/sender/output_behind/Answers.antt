-- `channel::sender::output_behind` meets its contract. Assumes nothing.
use borrow.Author.Tests.{eq-eqb, ne_eqb}
use Rattle.processor.proofs.Laws.{like, fault-passed}
use Rattle.processor.proofs.Talking.{hears-fault, silent}
use Rattle.channel.proofs.Handing.{waits}
use Rattle.channel.proofs.sender.output_behind.Goals as goal

pub returns-then-p : goal.returns-then-p
returns-then-p c u h g =
    silent (like (c.wait_at.ensures u h g)
    (λ x. rw (c.peek.ensures u h x _, c.in_ok-p.was, eq-eqb _ _ c.if-p.true) (waits _ _ _)))

pub returns : goal.returns
returns c u h g =
    let d = c.output_to.ensures u h g in
    record {
      said = λ x. rw (c.peek.ensures u h x _, c.in_ok-p.was, ne_eqb _ _ c.if-p.false) (d.said x);
      keeps = d.keeps;
    }

pub returns-in_err-p : goal.returns-in_err-p
returns-in_err-p c u h g =
    rw (fault-passed c.from_residual.result c.from_residual.ensures.1)
    (hears-fault (λ x. rw (c.peek.ensures u h x _, c.in_err-p.was)))
