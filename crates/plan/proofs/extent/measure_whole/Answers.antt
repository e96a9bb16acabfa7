-- `plan::extent::measure_whole` meets its contract. Assumes nothing.
use native.Mathlib.Omega.{arith}
use Rattle.plan.specs.Entries.{stored_in}
use Rattle.plan.specs.Extents.{whole_measured}
use Rattle.plan.proofs.extent.measure_whole.Goals as goal

pub ask-requires : goal.ask-requires
unfolding stored_in
ask-requires c = omega (arith, c.stored_in.ensures)

pub returns : goal.returns
unfolding whole_measured
returns c =
    rw (c.ask.ensures, c.stored_in.ensures, c.next_in.ensures, ← c.measure_expr-entry.ensures)
