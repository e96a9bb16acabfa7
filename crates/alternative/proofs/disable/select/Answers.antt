-- `alternative::disable::select` meets its contract. Assumes nothing.
use mathlib.Core.Path.{refl}
use borrow.Author.Tests.{eq-eqb, ne_eqb}
use Rattle.model.specs.Alternative.{select}
use Rattle.processor.proofs.Laws.{like, ends, faulty, next-next, fault-passed}
use Rattle.alternative.proofs.Staying.{poke-changing}
use Rattle.alternative.proofs.disable.select.Goals as goal

pub returns-then-t : goal.returns-then-t
unfolding select
returns-then-t c u h =
    like (c.poke.ensures u h)
    (λ x.
    rw (c.peek.ensures u h x _, c.in_ok-t.was, eq-eqb _ _ c.if-t.true, c.stack-r.ensures)
    (simp next-next (poke-changing _ _ _ _ _ (λ m. refl))))

pub returns : goal.returns
unfolding select
returns c u h =
    ends (λ x. rw (c.peek.ensures u h x _, c.in_ok-t.was, ne_eqb _ _ c.if-t.false, c.stack.ensures))

pub returns-in_err-t : goal.returns-in_err-t
unfolding select
returns-in_err-t c u h =
    rw (fault-passed c.from_residual.result c.from_residual.ensures.1)
    (faulty (λ x. rw (c.peek.ensures u h x _, c.in_err-t.was)))
