-- `expressions::expr::gen_constant` meets its contract. Assumes nothing.
use Rattle.expressions.specs.Exprs.{constant_into}
use Rattle.expressions.proofs.expr.gen_constant.Goals as goal

pub returns : goal.returns
unfolding constant_into
returns c = simp (← c.value_at-constant.ensures, ← c.plain-here.ensures)
