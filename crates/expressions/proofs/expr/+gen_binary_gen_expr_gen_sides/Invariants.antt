-- `expressions::expr::gen_binary`, `expressions::expr::gen_expr` and `expressions::expr::gen_sides` meet their contracts; the measure is
-- three times the depth left, for `gen_sides` one more, for `gen_binary` two more. Assumes nothing.
use Prim.Native.Nat.{◌+◌, ◌*◌}
use Rattle.expressions.proofs.expr.+gen_binary_gen_expr_gen_sides.Given as goal

abbrev pub decreases-gen_binary : goal.decreases-gen_binary
decreases-gen_binary l = 3 * l.depth + 2

abbrev pub decreases-gen_expr : goal.decreases-gen_expr
decreases-gen_expr l = 3 * l.depth

abbrev pub decreases-gen_sides : goal.decreases-gen_sides
decreases-gen_sides l = 3 * l.depth + 1
