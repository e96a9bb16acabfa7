-- `expressions::sides::time_and_condition` meets its contract. Assumes nothing.
use Rattle.expressions.specs.Exprs.{time_and_condition}
use Rattle.expressions.proofs.sides.time_and_condition.Goals as goal

pub returns : goal.returns
unfolding time_and_condition
returns c = rw c.sides_of-sides.ensures
