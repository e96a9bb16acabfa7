-- `statements::stmt::put_fork` meets its contract. Assumes nothing.
use Rattle.statements.specs.Stmts.{fork_into}
use Rattle.statements.proofs.stmt.put_fork.Goals as goal

pub returns : goal.returns
unfolding fork_into
returns c =
    rw (
      ← c.minus-lower.ensures,
      ← c.plain-gap.ensures,
      ← c.plus-user.ensures,
      ← c.operation-second.ensures,
      ← c.plain-third.ensures,
      ← c.plain-fourth.ensures,
      ← c.plain.ensures,
    )
