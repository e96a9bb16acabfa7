-- `expressions::emit::plain` meets its contract. Assumes nothing.
use Rattle.expressions.specs.Emits.{plain_into}
use Rattle.expressions.proofs.emit.plain.Goals as goal

pub returns : goal.returns
unfolding plain_into
returns c = c.put.ensures
