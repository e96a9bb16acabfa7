-- `table::usage::mark` meets its contract. Assumes nothing.
use Rattle.table.specs.Uses.{mark_at}
use Rattle.table.proofs.Words.{bit_is}
use Rattle.table.proofs.usage.mark.Goals as goal

pub returns : goal.returns
unfolding mark_at
returns c = rw bit_is
