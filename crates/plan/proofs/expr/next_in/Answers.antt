-- `plan::expr::next_in` meets its contract. Assumes nothing.
use mathlib.Core.Path.{refl}
use Rattle.plan.specs.Entries.{next_in}
use Rattle.plan.proofs.expr.next_in.Goals as goal

pub returns : goal.returns
unfolding next_in
returns c = refl
