-- `expressions::expr::gen_both` meets its contract. Assumes nothing.
use Rattle.expressions.specs.Exprs.{both_into}
use Rattle.expressions.proofs.expr.gen_both.Goals as goal

pub returns : goal.returns
unfolding both_into
returns c vs h =
    rw (
      ← c.time_and_condition-pair.ensures,
      ← c.entry_at-time.ensures,
      ← c.entry_at-condition.ensures,
      ← c.sides_held.ensures,
      ← c.lowered-n.ensures,
      ← c.minus.ensures,
      ← c.put_adjust-begin.ensures,
      ← c.below.ensures,
      ← c.gen_sides-behind.ensures vs h,
      ← c.put_adjust.ensures,
    )
