-- `channel::receiver::input_inside` meets its contract. Assumes nothing.
use native.Mathlib.Omega.{arith}
use borrow.Author.Tests.{eq-eqb, ne_eqb}
use Rattle.processor.proofs.Laws.{like, fault-passed}
use Rattle.processor.proofs.Talking.{hears, hears-fault, silent}
use Rattle.channel.proofs.Handing.{waits, handed}
use Rattle.channel.proofs.receiver.input_inside.Goals as goal

pub returns-then-p : goal.returns-then-p
returns-then-p c u h g =
    silent (like (c.wait_at.ensures u h g)
    (λ x. rw (c.peek.ensures u h x _, c.in_ok-p.was, eq-eqb _ _ c.if-p.true) (waits _ _ _)))

pub returns : goal.returns
returns c u h g =
    hears (c.deliver.ensures u h)
    (λ x.
    rw (c.peek.ensures u h x _, c.in_ok-p.was, ne_eqb _ _ c.if-p.false, c.receive.ensures u h x _, c.in_ok-v.was)
    (handed x u _ _ _ c.requires.0 (omega arith) _ _ _))

pub returns-in_err-v : goal.returns-in_err-v
returns-in_err-v c u h g =
    rw (fault-passed c.from_residual-in_err-v.result c.from_residual-in_err-v.ensures.1)
    (hears-fault (λ x.
    rw (c.peek.ensures u h x _, c.in_ok-p.was, ne_eqb _ _ c.if-p.false, c.receive.ensures u h x _, c.in_err-v.was)))

pub returns-in_err-p : goal.returns-in_err-p
returns-in_err-p c u h g =
    rw (fault-passed c.from_residual.result c.from_residual.ensures.1)
    (hears-fault (λ x. rw (c.peek.ensures u h x _, c.in_err-p.was)))
