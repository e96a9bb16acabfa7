-- `processor::memory::peek` meets its contract. Assumes nothing.
use borrow.Author.Tests.{lt-ltb, le-ltb}
use Rattle.std.proofs.Math.ListN.{get_or-append}
use Rattle.model.specs.Machine.{peek}
use Rattle.processor.proofs.memory.peek.Goals as goal

pub returns-then-a-memory : goal.returns-then-a-memory
unfolding peek
returns-then-a-memory c u h x r =
    rw (h, lt-ltb _ _ c.if-a-memory.true, get_or-append c.args.memory.now x.behind 0 c.args.a c.if-a-memory.true)

pub returns : goal.returns
unfolding peek
returns c u h x r = rw (h, le-ltb _ _ c.if-a-memory.false)
