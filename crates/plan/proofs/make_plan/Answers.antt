-- `plan::make_plan` meets its contract. Assumes nothing.
use Rattle.plan.specs.Extents.{table_plan}
use Rattle.plan.proofs.make_plan.Goals as goal

pub returns : goal.returns
unfolding table_plan
returns c =
    rw (table_plan, ← c.skip.ensures, ← c.skip-at.ensures, ← c.measure_stmt.ensures)
