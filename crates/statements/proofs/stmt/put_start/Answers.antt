-- `statements::stmt::put_start` meets its contract. Assumes nothing.
use Rattle.statements.specs.Stmts.{start_into}
use Rattle.statements.proofs.stmt.put_start.Goals as goal

pub returns : goal.returns
unfolding start_into
returns c =
    rw (← c.plus-user.ensures, ← c.distance-second.ensures, ← c.minus.ensures, ← c.plain-third.ensures)
    c.operation.ensures
