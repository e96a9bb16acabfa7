-- `expressions::simple::gen_time` meets its contract. Assumes nothing.
use Rattle.expressions.specs.Simples.{time_into}
use Rattle.expressions.proofs.simple.gen_time.Goals as goal

pub returns : goal.returns
unfolding time_into
returns c vs h =
    simp (← c.value_at-name.ensures, ← c.variable-to.ensures vs h, ← c.operation-read.ensures, ← c.plain-here.ensures)
