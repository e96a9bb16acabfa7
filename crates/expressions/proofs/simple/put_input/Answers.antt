-- `expressions::simple::put_input` meets its contract. Assumes nothing.
use Rattle.expressions.specs.Simples.{input_into}
use Rattle.expressions.proofs.simple.put_input.Goals as goal

pub returns : goal.returns
unfolding input_into
returns c =
    simp (← c.plain-second.ensures, ← c.plain-third.ensures, ← c.plain-fourth.ensures) c.operation.ensures
