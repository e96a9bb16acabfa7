-- `expressions::simple::put_output` meets its contract. Assumes nothing.
use Rattle.expressions.specs.Simples.{output_into}
use Rattle.expressions.proofs.simple.put_output.Goals as goal

pub returns : goal.returns
unfolding output_into
returns c =
    rw (
      ← c.plain-second.ensures,
      ← c.operation-third.ensures,
      ← c.minus.ensures,
      ← c.plain-fourth.ensures,
      ← c.operation-fifth.ensures,
    ) c.plain.ensures
