-- `plan::expr::measure_expr` and `plan::expr::measure_sides` meet their contracts; the measure is twice the depth left, for `measure_sides`
-- one more. Assumes nothing.
use Prim.Native.Nat.{◌+◌, ◌*◌}
use Rattle.plan.proofs.expr.+measure_expr_measure_sides.Given as goal

abbrev pub decreases-measure_expr : goal.decreases-measure_expr
decreases-measure_expr l = 2 * l.depth

abbrev pub decreases-measure_sides : goal.decreases-measure_sides
decreases-measure_sides l = 2 * l.depth + 1
