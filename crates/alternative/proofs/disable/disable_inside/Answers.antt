-- `alternative::disable::disable_inside` meets its contract. Assumes nothing.
use mathlib.Core.Path.{refl}
use borrow.Author.Tests.{eq-eqb, ne_eqb}
use Rattle.model.specs.Machine.{name_of}
use Rattle.processor.proofs.Laws.{like, ends, next-next}
use Rattle.alternative.proofs.Staying.{poke-changing}
use Rattle.alternative.proofs.disable.disable_inside.Goals as goal

pub returns-then-p-eq-NOT_PROCESS : goal.returns-then-p-eq-NOT_PROCESS
returns-then-p-eq-NOT_PROCESS c u h = ends (λ x. rw (eq-eqb _ _ c.if-p-eq-NOT_PROCESS.true, c.stack-r.ensures))

pub returns-then-p-cpu : goal.returns-then-p-cpu
unfolding name_of
returns-then-p-cpu c u h =
    like (c.poke.ensures u h)
    (λ x.
    rw (ne_eqb _ _ c.if-p-eq-NOT_PROCESS.false, eq-eqb _ _ c.if-p-cpu.true, c.stack-r.ensures)
    (simp next-next (poke-changing _ _ _ _ _ (λ m. refl))))

pub returns : goal.returns
unfolding name_of
returns c u h =
    like (c.select.ensures u h) (λ x. rw (ne_eqb _ _ c.if-p-eq-NOT_PROCESS.false, ne_eqb _ _ c.if-p-cpu.false))
