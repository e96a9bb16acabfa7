-- `expressions::emit::operation` meets its contract. Assumes nothing.
use Rattle.expressions.specs.Emits.{operation_into}
use Rattle.expressions.proofs.emit.operation.Goals as goal

pub returns : goal.returns
unfolding operation_into
returns c = c.plain.ensures
