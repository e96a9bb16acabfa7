-- `expressions::expr::gen_variable` meets its contract. Assumes nothing.
use Rattle.expressions.specs.Exprs.{variable_into}
use Rattle.expressions.proofs.expr.gen_variable.Goals as goal

pub returns : goal.returns
unfolding variable_into
returns c vs h =
    simp (← c.value_at-name.ensures, ← c.variable-word.ensures vs h, ← c.plain-here.ensures)
