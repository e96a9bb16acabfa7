-- `expressions::expr::gen_binary`, `expressions::expr::gen_expr` and `expressions::expr::gen_sides` meet their contracts; the measure is
-- three times the depth left, for `gen_sides` one more, for `gen_binary` two more. Assumes nothing.
use Prim.Native.Nat.{suc, ◌-◌}
use native.Mathlib.Omega.{arith}
use mathlib.Core.Path.{◌≡◌}
use Rattle.expressions.specs.Exprs.{sides_into, operated_into, expr_into}
use Rattle.expressions.proofs.expr.+gen_binary_gen_expr_gen_sides.Goals as goal

pub gen_binary-returns : goal.gen_binary-returns
unfolding operated_into
gen_binary-returns t c vs h =
    rw (
      ← c.value_at-operator.ensures,
      ← c.sides_of-pair.ensures,
      ← c.gen_sides-here.ensures vs h,
      ← c.operator_of-which.ensures,
      ← c.gen_operator.ensures,
    )

pub gen_expr-returns-then-depth-eq0 : goal.gen_expr-returns-then-depth-eq0
unfolding expr_into
gen_expr-returns-then-depth-eq0 t c vs h = rw c.if-depth-eq0.true

pub gen_expr-returns-in-Constant : goal.gen_expr-returns-in-Constant
unfolding expr_into
gen_expr-returns-in-Constant t c vs h =
    let one : c.args.depth ≡ suc (c.args.depth - 1) = omega (arith, c.if-depth-eq0.false) in
    rw one (rw (← c.value_at-number.ensures, ← c.expr_kind.ensures, c.in-Constant.is, c.gen_constant.ensures))

pub gen_expr-returns-in-Variable : goal.gen_expr-returns-in-Variable
unfolding expr_into
gen_expr-returns-in-Variable t c vs h =
    let one : c.args.depth ≡ suc (c.args.depth - 1) = omega (arith, c.if-depth-eq0.false) in
    rw one (rw (← c.value_at-number.ensures, ← c.expr_kind.ensures, c.in-Variable.is, c.gen_variable.ensures vs h))

pub gen_expr-returns-in-Not : goal.gen_expr-returns-in-Not
unfolding expr_into
gen_expr-returns-in-Not t c vs h =
    let one : c.args.depth ≡ suc (c.args.depth - 1) = omega (arith, c.if-depth-eq0.false) in
    let inner = c.gen_expr-inner.ensures vs h in
    rw one (rw (← c.value_at-number.ensures, ← c.expr_kind.ensures, c.in-Not.is, ← inner, ← c.plain-here.ensures))

pub gen_expr-returns-in-Binary : goal.gen_expr-returns-in-Binary
unfolding expr_into
gen_expr-returns-in-Binary t c vs h =
    let one : c.args.depth ≡ suc (c.args.depth - 1) = omega (arith, c.if-depth-eq0.false) in
    rw one (rw (← c.value_at-number.ensures, ← c.expr_kind.ensures, c.in-Binary.is, c.gen_binary.ensures vs h))

pub gen_sides-returns : goal.gen_sides-returns
unfolding sides_into
gen_sides-returns t c vs h =
    rw (
      ← c.arrange-sides.ensures,
      ← c.gen_expr-one.ensures vs h,
      ← c.put_between-between.ensures,
      ← c.gen_expr-two.ensures vs h,
      ← c.put_behind.ensures,
    )
