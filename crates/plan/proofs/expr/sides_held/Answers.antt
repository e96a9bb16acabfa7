-- `plan::expr::sides_held` meets its contract. Assumes nothing.
use native.Mathlib.Omega.{arith}
use Rattle.plan.specs.Entries.{stored_in}
use Rattle.plan.proofs.expr.sides_held.Goals as goal

pub sides_hold-requires : goal.sides_hold-requires
unfolding stored_in
sides_hold-requires c = omega (arith, c.stored_in.ensures)
