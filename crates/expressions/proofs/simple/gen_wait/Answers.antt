-- `expressions::simple::gen_wait` meets its contract. Assumes nothing.
use Rattle.expressions.specs.Simples.{wait_into}
use Rattle.expressions.proofs.simple.gen_wait.Goals as goal

pub returns : goal.returns
unfolding wait_into
returns c vs h =
    simp (← c.gen_whole-time.ensures vs h, ← c.operation-here.ensures)
