-- `processor::process::jump` meets its contract. Assumes nothing.
use mathlib.Core.Path.{refl, ◌∙◌}
use borrow.Author.Tests.{lt-ltb, le-ltb}
use Rattle.model.specs.Execute.{jump}
use Rattle.processor.proofs.Laws.{like, jump-yields}
use Rattle.processor.proofs.process.jump.Goals as goal

pub returns-then-cpu-setup : goal.returns-then-cpu-setup
unfolding jump
returns-then-cpu-setup c =
    like (c.land.ensures c.args.setup refl _)
    (λ x. rw (lt-ltb _ _ c.if-cpu-setup.true, c.goto.ensures, ← c.plus-to.ensures))

pub returns : goal.returns
returns c =
    like (c.yield_slice.ensures c.args.setup c.requires.1 refl)
    (λ x. jump-yields x _ _ _ _ (le-ltb _ _ c.if-cpu-setup.false) ∙ rw (← c.plus-to.ensures))
