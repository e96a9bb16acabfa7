-- The code's size is bounded by the bytes of the table.
use Prim.Native.Nat.{ℕ, zero, suc, ◌+◌, ◌*◌, ◌≤◌, ◌<◌}
use native.Mathlib.Omega.{arith}
use mathlib.Core.List.{List}
use Rattle.model.specs.Syntax.{Site, Expr, Stmt, Stmts, no_stmt, stmt, Pairs, Guard, Guards}
use Rattle.model.specs.declared.kinds.Operator.{Operator}
use Rattle.model.specs.declared.kinds.Operator.TheVariants.{Plus as PLUS, Minus as MINUS, Times as TIMES, Gt as GT, Eq as EQ, And as AND}
use Rattle.model.specs.declared.kinds.Operator.TheVariants.{Or as OR, Xor as XOR}
use Rattle.model.specs.Reader.{Scope}
use Rattle.model.specs.Counts.{order, temporaries, both_hold}
use Rattle.model.specs.declared.kinds.Order.{Order}
use Rattle.model.specs.declared.kinds.Order.TheVariants.{LeftFirst, RightFirst, RightStored}
use Rattle.model.specs.Scheme.{operator_size, sides_size, expr_size, wrap_size, whole_size, how_many, size, size_all, size_par, size_ends}
use Rattle.model.specs.Scheme.{size_pairs}
use Rattle.model.specs.Scheme.{size_enable, size_disable, size_branches, both_size, enable_size, disable_size, input_size}
use Rattle.statements.proofs.Spelled.{ExprAt, constant_at, variable_at, not_at, binary_at, StmtAt, skip_at, stop_at, assign_at, input_at}
use Rattle.statements.proofs.Spelled.{output_at, var_at, chan_at, seq_at, par_at, if_at, while_at, alt_at, time_at, wait_at, StmtsAt}
use Rattle.statements.proofs.Spelled.{no_stmt_at}
use Rattle.statements.proofs.Spelled.{stmts_at, PairsAt, no_pair_at, pair_at, GuardAt, input_guard_at, skip_guard_at, GuardsAt, no_guard_at}
use Rattle.statements.proofs.Spelled.{time_guard_at, guards_at}

operator-small : (op : Operator) → operator_size op ≤ 2
unfolding operator_size
operator-small PLUS = omega arith
operator-small MINUS = omega arith
operator-small TIMES = omega arith
operator-small GT = omega arith
operator-small EQ = omega arith
operator-small AND = omega arith
operator-small OR = omega arith
operator-small XOR = omega arith

sides-small : (o : Order) (l r : ℕ) → sides_size o l r ≤ l + r + 2
unfolding sides_size
sides-small LeftFirst l r = omega arith
sides-small RightFirst l r = omega arith
sides-small RightStored l r = omega arith

wrap-small : (t : ℕ) → wrap_size t ≤ 2
unfolding wrap_size
wrap-small zero = omega arith
wrap-small (suc t) = omega arith

par-ends : (ss : Stmts) → size_par ss ≤ 7 + size_ends ss + 3 * how_many ss
unfolding size how_many
par-ends no_stmt = omega arith
par-ends (stmt b ss) = omega arith

module _ (s : List ℕ) where
  expr-bound : {vs : List Site} {d i n : ℕ} {e : Expr} → ExprAt s vs d i e n → expr_size e + 3 + 2 * i ≤ 2 * n
  unfolding expr_size
  expr-bound (constant_at v k t) = omega (arith, k.ahead, t.ahead)
  expr-bound (variable_at k x) = omega (arith, k.ahead, x.there.ahead)
  expr-bound (not_at k a) = omega (arith, k.ahead, expr-bound a)
  expr-bound (binary_at {op = op} {l = l} {r = r} k v a c) =
      omega (
        arith,
        k.ahead,
        v.there.ahead,
        expr-bound a,
        expr-bound c,
        sides-small (order l r) (expr_size l) (expr_size r),
        operator-small op,
      )

  whole-bound : {vs : List Site} {d i n : ℕ} {e : Expr} → ExprAt s vs d i e n → whole_size e + 2 * i < 2 * n
  unfolding whole_size
  whole-bound {e = e} a = omega (arith, expr-bound a, wrap-small (temporaries e))

  both-bound : {vs : List Site} {d i m n : ℕ} {e t : Expr} → ExprAt s vs d i e m → ExprAt s vs d m t n → both_size t e + 2 * i < 2 * n
  unfolding both_size
  both-bound {e = e} {t = t} a b =
      omega (
        arith,
        expr-bound a,
        expr-bound b,
        sides-small (order t e) (expr_size t) (expr_size e),
        wrap-small (both_hold t e),
      )

  guard-bound : {w : Scope} {d i n : ℕ} {g : Guard} → GuardAt s d w i g n →
      enable_size g + disable_size g + input_size g + 2 + 80 * i ≤ 80 * n
  unfolding enable_size disable_size input_size
  guard-bound (input_guard_at k e c x) = omega (arith, k.ahead, whole-bound e, c.there.ahead, x.there.ahead)
  guard-bound (skip_guard_at k e) = omega (arith, k.ahead, whole-bound e)
  guard-bound (time_guard_at k e t) = omega (arith, k.ahead, both-bound e t)

  mutual
    unfolding size how_many

    pub stmt-bound : {w : Scope} {d i n : ℕ} {b : Stmt} → StmtAt s d w i b n → size b + 13 + 80 * i ≤ 80 * n
    stmt-bound (skip_at k) = omega (arith, k.ahead)
    stmt-bound (stop_at k) = omega (arith, k.ahead)
    stmt-bound (assign_at k x e) = omega (arith, k.ahead, x.there.ahead, whole-bound e)
    stmt-bound (input_at k c x) = omega (arith, k.ahead, c.there.ahead, x.there.ahead)
    stmt-bound (output_at k c e) = omega (arith, k.ahead, c.there.ahead, whole-bound e)
    stmt-bound (var_at k c a) = omega (arith, k.ahead, c.there.ahead, c.most, stmt-bound a)
    stmt-bound (chan_at k c a) = omega (arith, k.ahead, c.there.ahead, c.most, stmt-bound a)
    stmt-bound (seq_at k c a) = omega (arith, k.ahead, c.there.ahead, all-bound a)
    stmt-bound (par_at {ss = ss} k c a) = omega (arith, k.ahead, c.there.ahead, par-ends ss, ends-bound a)
    stmt-bound (if_at k c a) = omega (arith, k.ahead, c.there.ahead, pairs-bound a)
    stmt-bound (while_at k e a) = omega (arith, k.ahead, whole-bound e, stmt-bound a)
    stmt-bound (alt_at k c a) = omega (arith, k.ahead, c.there.ahead, guards-bound a)
    stmt-bound (time_at k x) = omega (arith, k.ahead, x.there.ahead)
    stmt-bound (wait_at k e) = omega (arith, k.ahead, whole-bound e)

    all-bound : {w : Scope} {d k i n : ℕ} {ss : Stmts} → StmtsAt s d w k i ss n → size_all ss + 80 * i ≤ 80 * n
    all-bound no_stmt_at = omega arith
    all-bound (stmts_at a c) = omega (arith, stmt-bound a, all-bound c)

    ends-bound : {w : Scope} {d k i n : ℕ} {ss : Stmts} → StmtsAt s d w k i ss n → size_ends ss + 3 * how_many ss + 80 * i ≤ 80 * n
    ends-bound no_stmt_at = omega arith
    ends-bound (stmts_at a c) = omega (arith, stmt-bound a, ends-bound c)

    pairs-bound : {w : Scope} {d k i n : ℕ} {ps : Pairs} → PairsAt s d w k i ps n → size_pairs ps + 80 * i ≤ 80 * n + 1
    pairs-bound no_pair_at = omega arith
    pairs-bound (pair_at e a c) = omega (arith, whole-bound e, stmt-bound a, pairs-bound c)

    guards-bound : {w : Scope} {d k i n : ℕ} {gs : Guards} → GuardsAt s d w k i gs n
        → size_enable gs + size_disable gs + size_branches gs + 80 * i ≤ 80 * n
    guards-bound no_guard_at = omega arith
    guards-bound (guards_at g a h) = omega (arith, guard-bound g, stmt-bound a, guards-bound h)
