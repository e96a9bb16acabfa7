-- `table::usage::forget` meets its contract. Assumes nothing.
use Prim.Native.Nat.{◌%◌}
use lib.Pow.{pow_pos}
use borrow.Author.Tests.{lt-ltb, le-ltb}
use Rattle.table.specs.Uses.{forget_at}
use Rattle.table.proofs.Words.{bit_is}
use Rattle.table.proofs.usage.forget.Goals as goal

pub nonzero_rem-sets-2 : goal.nonzero_rem-sets-2
nonzero_rem-sets-2 c = rw bit_is (pow_pos (c.args.names % 64))

pub returns-then-names-lt15 : goal.returns-then-names-lt15
unfolding forget_at
returns-then-names-lt15 c = simp (lt-ltb _ _ c.if-names-lt15.true, bit_is)

pub returns-else-names-lt15 : goal.returns-else-names-lt15
unfolding forget_at
returns-else-names-lt15 c = simp (le-ltb _ _ c.if-names-lt15.false, bit_is)
