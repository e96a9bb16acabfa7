-- `expressions::emit::distance` meets its contract. Assumes nothing.
use Rattle.expressions.specs.Emits.{distance_into}
use Rattle.expressions.proofs.emit.distance.Goals as goal

pub returns : goal.returns
unfolding distance_into
returns c = c.put.ensures
