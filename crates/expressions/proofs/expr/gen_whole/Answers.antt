-- `expressions::expr::gen_whole` meets its contract. Assumes nothing.
use Rattle.expressions.specs.Exprs.{whole_into}
use Rattle.expressions.proofs.expr.gen_whole.Goals as goal

pub returns : goal.returns
unfolding whole_into
returns c vs h =
    rw (
      ← c.entry_at.ensures,
      ← c.stored_in-stored.ensures,
      ← c.lowered-n.ensures,
      ← c.minus.ensures,
      ← c.put_adjust-begin.ensures,
      ← c.below.ensures,
      ← c.gen_expr-inner.ensures vs h,
      ← c.put_adjust-here.ensures,
    )
