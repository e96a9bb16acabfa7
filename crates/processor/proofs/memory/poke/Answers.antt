-- `processor::memory::poke` meets its contract. Assumes nothing.
use mathlib.Core.Path.{refl}
use borrow.Author.Tests.{lt-ltb, le-ltb}
use Rattle.processor.proofs.Laws.{set-whole}
use Rattle.model.specs.Machine.{poke}
use Rattle.processor.proofs.memory.poke.Goals as goal

pub returns-then-a-memory : goal.returns-then-a-memory
unfolding poke
returns-then-a-memory c u h =
    let t = lt-ltb _ _ c.if-a-memory.true in
    record { said = λ x. rw (h, t, set-whole c.args.memory.now x.behind c.args.a c.args.v t); keeps = tt }

pub returns : goal.returns
unfolding poke
returns c u h = record { said = λ x. rw (h, le-ltb _ _ c.if-a-memory.false); keeps = refl }
