-- `plan::extent::extent_in` meets its contract. Assumes nothing.
use Rattle.plan.specs.Extents.{extent_in}
use Rattle.plan.proofs.extent.extent_in.Goals as goal

pub returns : goal.returns
unfolding extent_in
returns c = rw (← c.entry_at-entry.ensures)
