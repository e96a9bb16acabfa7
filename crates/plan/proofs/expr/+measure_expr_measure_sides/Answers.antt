-- `plan::expr::measure_expr` and `plan::expr::measure_sides` meet their contracts; the measure is twice the depth left, for `measure_sides`
-- one more. Assumes nothing.
use Prim.Native.Nat.{ℕ, suc, ◌-◌}
use native.Mathlib.Omega.{arith}
use mathlib.Core.List.{List}
use mathlib.Core.Logic.{inl, inr}
use mathlib.Core.Path.{◌≡◌}
use Rattle.model.specs.declared.kinds.ExprKind.{ExprKind}
use Rattle.numbers.specs.Items.{value_at}
use Rattle.numbers.specs.Kinds.{expr_kind, by_expr}
use Rattle.numbers.specs.declared.Value.{Value}
use Rattle.plan.specs.Entries.{Entered, entered, next_of, entry, put_at, expr_entered, sides_entered, inner_entered}
use Rattle.plan.proofs.expr.+measure_expr_measure_sides.Goals as goal
use Rattle.plan.proofs.expr.+measure_expr_measure_sides.Goals.{measure_expr-in-Constant, measure_expr-in-Not}
use Rattle.plan.proofs.expr.+measure_expr_measure_sides.Goals.{measure_expr-in-Binary}

-- an expression by what follows its kind where there is depth left
turn : (d : ℕ) (s : List ℕ) (at : ℕ) (p : List ℕ) {v : Value} {k : ExprKind} {m : Entered} {r : List ℕ} → (d ≡ 0 → ⊥) → v ≡ value_at s at
    → k ≡ expr_kind v.value
    → (let leaf = entered (entry (next_of s v.next) 1 0) p in
    m ≡ by_expr k leaf leaf (expr_entered (d - 1) s v.next p) (sides_entered (inner_entered (d - 1) s) s v.next p))
    → r ≡ put_at at m.own m.plan → entered m.own r ≡ expr_entered d s at p
unfolding expr_entered
turn d s at p z e f g h = let i : d ≡ suc (d - 1) = omega (arith, z) in rw (i, h, g, f, e)

pub measure_expr-returns-then-depth-eq0 : goal.measure_expr-returns-then-depth-eq0
unfolding expr_entered
measure_expr-returns-then-depth-eq0 t c = rw (c.entry.ensures, c.if-depth-eq0.true)

pub measure_expr-returns : goal.measure_expr-returns
measure_expr-returns t c =
    turn _ _ _ _ {m = entered c.match-expr_kind.own c.match-expr_kind.plan} c.if-depth-eq0.false c.value_at-number.ensures
    c.expr_kind.ensures
    (elim c.match-expr_kind.branch [
      | measure_expr-in-Constant w ↦
          elim w.in-Constant.is [
            | inl e ↦ rw (w.own-is, w.plan-is, e, w.entry-own.ensures, w.skip.ensures)
            | inr e ↦ rw (w.own-is, w.plan-is, e, w.entry-own.ensures, w.skip.ensures)
          ]
      | measure_expr-in-Not w ↦ rw (w.own-is, w.plan-is, w.in-Not.is, w.measure_expr-own.ensures)
      | measure_expr-in-Binary w ↦ rw (w.own-is, w.plan-is, w.in-Binary.is, w.measure_sides-own.ensures)
    ])
    c.put_entry.ensures

pub measure_sides-returns : goal.measure_sides-returns
unfolding sides_entered
measure_sides-returns t c =
    rw (c.sides_entry.ensures, ← c.skip-first.ensures, ← c.measure_expr-left.ensures, ← c.next_in.ensures, ← c.measure_expr-right.ensures)
