-- `expressions::simple::gen_assign` meets its contract. Assumes nothing.
use Rattle.expressions.specs.Simples.{assign_into}
use Rattle.expressions.proofs.simple.gen_assign.Goals as goal

pub returns : goal.returns
unfolding assign_into
returns c vs h =
    simp (← c.value_at-name.ensures, ← c.gen_whole-value.ensures vs h, ← c.variable-word.ensures vs h, ← c.plain-here.ensures)
