-- `executor::bytes::step` meets its contract. Assumes nothing.
use mathlib.Core.Path.{refl}
use borrow.Author.Tests.{lt-ltb, le-ltb}
use Rattle.model.specs.Run.{byte, fetch}
use Rattle.executor.proofs.Acts.{acts-as}
use Rattle.executor.proofs.bytes.step.Goals as goal

pub returns-then-setup-cpu : goal.returns-then-setup-cpu
unfolding byte fetch
returns-then-setup-cpu c =
    record { said = λ x. rw (le-ltb _ _ c.if-setup-cpu.true); keeps = refl; keeps_held = refl; keeps_front = refl; long = refl }

pub returns : goal.returns
unfolding byte fetch
returns c =
    acts-as c.act.ensures (λ x. rw (lt-ltb _ _ c.if-setup-cpu.false))
