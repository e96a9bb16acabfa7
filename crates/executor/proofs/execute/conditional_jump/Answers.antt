-- `executor::execute::conditional_jump` meets its contract. Assumes nothing.
use native.Mathlib.Omega.{arith}
use Rattle.model.specs.Execute.{conditional_jump}
use borrow.Author.Tests.{eq-eqb, ne_eqb}
use Rattle.processor.proofs.Laws.{like, ends}
use Rattle.processor.proofs.Talking.{lands}
use Rattle.executor.proofs.execute.conditional_jump.Goals as goal

pub returns-then-cpu-eq0 : goal.returns-then-cpu-eq0
unfolding conditional_jump
returns-then-cpu-eq0 c u h l =
    like (c.land.ensures u h l) (λ x. rw (eq-eqb _ _ c.if-cpu-eq0.true, ← c.plus.ensures, c.goto.ensures))

pub returns : goal.returns
unfolding conditional_jump
returns c u h l =
    ends (λ x. rw (ne_eqb _ _ c.if-cpu-eq0.false, c.pop.ensures) (lands _ c.requires.0 (omega arith)))
