-- `table::expr::read_expr` and `table::expr::read_sides`, which call each other, meet their contracts. The measures are twice the depth
-- left, and one more for the sides. Assumes nothing.
use Prim.Native.Nat.{◌+◌, ◌*◌}
use Rattle.table.proofs.expr.+read_expr_read_sides.Given as goal

abbrev pub decreases-read_expr : goal.decreases-read_expr
decreases-read_expr l = 2 * l.depth

abbrev pub decreases-read_sides : goal.decreases-read_sides
decreases-read_sides l = 2 * l.depth + 1
