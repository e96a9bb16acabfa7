-- `statements::alt::put_disable` meets its contract. Assumes nothing.
use Rattle.statements.specs.Alts.{disable_into}
use Rattle.statements.proofs.alt.put_disable.Goals as goal

pub returns : goal.returns
unfolding disable_into
returns c = rw (← c.distance-second.ensures, ← c.by_kind-code.ensures) c.operation.ensures
