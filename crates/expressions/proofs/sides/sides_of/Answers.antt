-- `expressions::sides::sides_of` meets its contract. Assumes nothing.
use Rattle.expressions.specs.Exprs.{sides_of}
use Rattle.expressions.proofs.sides.sides_of.Goals as goal

pub returns : goal.returns
unfolding sides_of
returns c =
    rw (c.next_in.ensures, c.entry_at-2.ensures, c.next_in-right.ensures, c.entry_at.ensures)
