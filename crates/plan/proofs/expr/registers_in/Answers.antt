-- `plan::expr::registers_in` meets its contract. Assumes nothing.
use mathlib.Core.Path.{refl}
use Rattle.plan.specs.Entries.{registers_in}
use Rattle.plan.proofs.expr.registers_in.Goals as goal

pub returns : goal.returns
unfolding registers_in
returns c = refl
