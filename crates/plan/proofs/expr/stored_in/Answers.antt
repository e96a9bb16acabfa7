-- `plan::expr::stored_in` meets its contract. Assumes nothing.
use mathlib.Core.Path.{refl}
use Rattle.plan.specs.Entries.{stored_in}
use Rattle.plan.proofs.expr.stored_in.Goals as goal

pub returns : goal.returns
unfolding stored_in
returns c = refl
