-- `processor::memory::swap` meets its contract. Assumes nothing.
use mathlib.Core.Path.{refl}
use borrow.Author.Tests.{lt-ltb, le-ltb}
use Rattle.processor.proofs.memory.swap.Goals as goal

pub returns-then-a-memory : goal.returns-then-a-memory
returns-then-a-memory c = record { held = rw (lt-ltb _ _ c.if-a-memory.true); holds = refl }

pub returns : goal.returns
returns c = record { held = rw (le-ltb _ _ c.if-a-memory.false); holds = refl }
